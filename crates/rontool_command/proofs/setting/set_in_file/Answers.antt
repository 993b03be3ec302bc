use Rattle.std.proofs.Common.{rules, ◌≡◌, ◌∙◌, Some, ap, chars, string_bytes}
use Rattle.rontool_files.specs.Thing.{bytes_of}
use Rattle.rontool_command.specs.Kept.{HasPut}
use Rattle.rontool_command.proofs.KeptLemmas.{kept_from}
use Rattle.rontool_command.proofs.setting.set_in_file.Goals as goal

pub returns-clause-kept : goal.returns-clause-kept
returns-clause-kept g c = λ told.
    let same = c.open_file.ensures.same told in
    let before : bytes_of (g.S.Store.stands c.args.store.now c.as_str-file.result.now) ≡ Some c.as_slice.result.now = search rules in
    let held : bytes_of (g.S.Store.stands c.open_file.new.store c.as_str-file.result.now) ≡ Some c.as_slice.result.now =
    ap (λ paths. bytes_of (paths c.as_str-file.result.now)) same ∙ before in
    let put : HasPut (chars (string_bytes c.args.asked.now.value)) (chars c.as_slice.result.now) (chars c.as_bytes.result.now) = search rules in
    kept_from (g.S.Store.stands c.args.store.now) (g.S.Store.stands c.open_file.new.store) (g.S.Store.stands c.put_in_place.new.store) same
    (c.put_in_place.ensures.kept told c.as_slice.result.now (chars (string_bytes c.args.asked.now.value)) held put)

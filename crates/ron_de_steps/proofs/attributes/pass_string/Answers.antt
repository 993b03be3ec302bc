use Rattle.std.proofs.Common.{◌≡◌, refl}
use Rattle.std.proofs.lemmas.Result.{err_from_is_err_and}
use Rattle.ron_spec_words.specs.Quoted.{string}
use Rattle.ron_spec_words.specs.Reader.{failed, bad}
use Rattle.ron_de_steps.proofs.ErrorLemmas.{memory_or_bad, memory_or_more}
use Rattle.ron_de_steps.proofs.attributes.pass_string.Goals as goal

pub returns-in_err-read_string-clause-value : goal.returns-in_err-read_string-clause-value
returns-in_err-read_string-clause-value c =
    let p = err_from_is_err_and c.from_residual.result c.from_residual.ensures.1 in
    rw (p.1, p.2) (memory_or_more {P = string c.args.cursor.now.rest ≡ failed bad} _ (λ e. rw e refl)
    (memory_or_bad _ _ c.in_err-read_string.ensures.no_level c.in_err-read_string.ensures.value))

use Rattle.std.proofs.Common.{inl, inr, [], subst, IfErr}
use Rattle.std.proofs.lemmas.Result.{err_from_is_err_and}
use Rattle.ron.specs.Bytes.{ReadsReader, TellsReaderFault, IsInGiven}
use Rattle.ron.proofs.OwnedLemmas.{none_given}
use Rattle.ron.proofs.TypeLemmas.{by_type, refused_by}
use Rattle.ron.proofs.options.Options.from_reader.Goals as goal

pub returns-in-Err-clause-left : goal.returns-in-Err-clause-left
returns-in-Err-clause-left g c = ([], none_given (g.R.Read.remaining c.args.reader.now))

pub returns-in_err-data : goal.returns-in_err-data
returns-in_err-data g c =
    let read = c.from_reader_seed.ensures in
    let old = g.R.Read.remaining c.args.reader.now in
    let new = g.R.Read.remaining c.from_reader_seed.new.reader in
    let p = err_from_is_err_and c.from_residual.result c.from_residual.ensures.1 in
    let reads = by_type (λ t r. ReadsReader c.args.self.now.default_extensions c.args.self.now.recursion_limit t old new r) _ _ _ _ c.in-Ok.ensures
    c.in_err-data.was (read.reads) in
    let told = subst (λ r. IfErr r (TellsReaderFault old new)) c.in_err-data.was read.failed in
    let placed = subst (λ r. IfErr r (IsInGiven old new)) c.in_err-data.was read.place in
    rw (p.1, p.2) (record { reads = inl reads; place = inl (reads, told, placed); left = read.left })

pub returns-in-Ok-from_data : goal.returns-in-Ok-from_data
returns-in-Ok-from_data g c =
    let read = c.from_reader_seed.ensures in
    let old = g.R.Read.remaining c.args.reader.now in
    let new = g.R.Read.remaining c.from_reader_seed.new.reader in
    let made = c.in-Ok-from_data.ensures in
    record {
      reads = (
        c.in_ok-data.data,
        by_type (λ t r. ReadsReader c.args.self.now.default_extensions c.args.self.now.recursion_limit t old new r) _ _ _ _ c.in-Ok.ensures c.in_ok-data.was
            (read.reads),
        record { accepted = made.accepted; value = made.value },
      );
      place = tt;
      left = read.left;
    }

pub returns : goal.returns
returns g c =
    let told = refused_by g.T.Deserialize.refuses g.T.Schematic.accepts _ _ _ c.refused-in-Err-from_data.ensures.code c.in-Err-from_data.ensures.refused
    c.in-Err-from_data.ensures.accepted in
    let read = c.from_reader_seed.ensures in
    let old = g.R.Read.remaining c.args.reader.now in
    let new = g.R.Read.remaining c.from_reader_seed.new.reader in
    let answered = by_type (λ t r. ReadsReader c.args.self.now.default_extensions c.args.self.now.recursion_limit t old new r) _ _ _ _ c.in-Ok.ensures
    c.in_ok-data.was (read.reads) in
    record {
      reads = inr (inl (c.in_ok-data.data, answered, told.0, told.1));
      place = inr (inl (c.in_ok-data.data, answered, told.0, told.1), c.refused-in-Err-from_data.ensures.span);
      left = read.left;
    }

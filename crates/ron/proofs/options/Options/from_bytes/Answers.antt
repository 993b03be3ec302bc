use Rattle.std.proofs.Common.{inl, inr, subst, IfErr}
use Rattle.std.proofs.lemmas.Result.{err_from_is_err_and}
use Rattle.ron.specs.Bytes.{ReadsBytes, IsInValidFront}
use Rattle.ron.proofs.OwnedLemmas.{front_span}
use Rattle.ron.proofs.TypeLemmas.{by_type, refused_by}
use Rattle.ron.proofs.options.Options.from_bytes.Goals as goal

pub returns-in_err-data : goal.returns-in_err-data
returns-in_err-data g c =
    let read = c.from_bytes_seed.ensures in
    let p = err_from_is_err_and c.from_residual.result c.from_residual.ensures.1 in
    let reads = by_type (λ t r. ReadsBytes c.args.self.now.default_extensions c.args.self.now.recursion_limit t (c.args.s.now) r) _ _ _ _ c.in-Ok.ensures
    c.in_err-data.was (record { text = read.text; invalid = read.invalid; only = read.only; place = read.place }) in
    rw (p.1, p.2) (record { reads = inl reads; place = subst (λ r. IfErr r (IsInValidFront c.args.s.now)) c.in_err-data.was read.place; own = inl reads })

pub returns-in-Ok-from_data : goal.returns-in-Ok-from_data
returns-in-Ok-from_data g c =
    let read = c.from_bytes_seed.ensures in
    let made = c.in-Ok-from_data.ensures in
    record {
      reads = (
        c.in_ok-data.data,
        by_type (λ t r. ReadsBytes c.args.self.now.default_extensions c.args.self.now.recursion_limit t (c.args.s.now) r) _ _ _ _ c.in-Ok.ensures
            c.in_ok-data.was (record { text = read.text; invalid = read.invalid; only = read.only; place = read.place }),
        record { accepted = made.accepted; value = made.value },
      );
      place = tt;
      own = tt;
    }

pub returns : goal.returns
returns g c =
    let told = refused_by g.T.Deserialize.refuses g.T.Schematic.accepts _ _ _ c.refused-in-Err-from_data.ensures.code c.in-Err-from_data.ensures.refused
    c.in-Err-from_data.ensures.accepted in
    let read = c.from_bytes_seed.ensures in
    let answered = by_type (λ t r. ReadsBytes c.args.self.now.default_extensions c.args.self.now.recursion_limit t (c.args.s.now) r) _ _ _ _ c.in-Ok.ensures
    c.in_ok-data.was (record { text = read.text; invalid = read.invalid; only = read.only; place = read.place }) in
    record {
      reads = inr (inl (c.in_ok-data.data, answered, told.0, told.1));
      place = front_span c.args.s.now c.refused-in-Err-from_data.result c.refused-in-Err-from_data.ensures.span;
      own = inr (inl (c.in_ok-data.data, answered, told.0, told.1), c.refused-in-Err-from_data.ensures.span);
    }

pub returns-in-Err-clause-place : goal.returns-in-Err-clause-place
returns-in-Err-clause-place g c = front_span c.args.s.now c.refused.result c.refused.ensures.span

use Rattle.std.proofs.Common.{inl, subst}
use Rattle.std.proofs.lemmas.Result.{IfErr-weaker}
use Rattle.ron_data_schema.specs.Table.{table_of}
use Rattle.ron_base_device.specs.Utf8.{SpansValidFront}
use Rattle.ron.specs.Bytes.{ReadsGiven, IsInValidFront}
use Rattle.ron.proofs.OwnedLemmas.{all_given, front_span}
use Rattle.ron.proofs.options.Options.from_source_seed.Goals as goal

pub returns-in-Ok-clause-reads : goal.returns-in-Ok-clause-reads
returns-in-Ok-clause-reads g c =
    let options = c.args.self.now in
    let pulled = c.pull_all-bytes.ensures in
    let ended = rw c.in-Ok.is at pulled.ended in
    inl (
      record {
        given = c.pull_all-bytes.result.0.items;
        whole = all_given _ (g.S.Source.remaining c.pull_all-bytes.new.source) _ pulled.given ended;
        read = subst (λ bytes. ReadsGiven options.default_extensions options.recursion_limit (table_of c.args.schema.now) bytes c.owned_from_bytes.result)
            c.as_slice.ensures.value c.owned_from_bytes.ensures.reads;
      },
      ended,
      rw c.in-Ok.is at pulled.kept,
    )

pub returns-in-Ok-clause-place : goal.returns-in-Ok-clause-place
returns-in-Ok-clause-place g c =
    IfErr-weaker c.owned_from_bytes.result _ _
    (λ refused place. record {
      given = c.pull_all-bytes.result.0.items;
      gave = c.pull_all-bytes.ensures.given;
      place = subst (λ bytes. IsInValidFront bytes refused) c.as_slice.ensures.value place;
    })
    c.owned_from_bytes.ensures.place

pub returns-clause-place : goal.returns-clause-place
returns-clause-place g c =
    let pulled = c.pull_all-bytes in
    let span = subst (λ bytes. SpansValidFront bytes c.valid_span.result) c.as_slice-in-Err.ensures.value c.valid_span.ensures in
    record {
      given = pulled.result.0.items;
      gave = pulled.ensures.given;
      place = front_span pulled.result.0.items (record { code = c.in-Err.code; span = c.valid_span.result }) span;
    }

pub returns-in-Ok-clause-left : goal.returns-in-Ok-clause-left
returns-in-Ok-clause-left g c = (c.pull_all-bytes.result.0.items, c.pull_all-bytes.ensures.given)

pub returns-clause-left : goal.returns-clause-left
returns-clause-left g c = (c.pull_all-bytes.result.0.items, c.pull_all-bytes.ensures.given)

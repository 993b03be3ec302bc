use Rattle.std.proofs.Common.{◌≡◌, ℕ, ◌+◌, ◌<◌, ◌≤◌, ◌∷◌, ◌++◌, length, take, get_or, sym, ap, ◌∙◌, subst, arith}
use Rattle.std.proofs.Math.Seq.{take-append_seam}
use Rattle.std.proofs.lemmas.List.{get_or_at}
use Rattle.std.specs.Prelude.{slice_set}
use Rattle.std.specs.List.{remove, insert}
use Rattle.ron_value.specs.declared.value.Value.{Value}
use Rattle.ron_value.specs.Entries.{Entries}
use Rattle.ron_value.specs.Place.{IsFoundAt, IsMissingAt, IsPlaceOf}
use Rattle.ron_value.proofs.OrderedEntries.{AreOrdered}
use Rattle.ron_value.proofs.SettledPairs.{settles-behind, settles-found, settles-missing}
use Rattle.ron_value.proofs.map.settle.Goals as goal

pub returns-in-Ok-clause-content : goal.returns-in-Ok-clause-content
returns-in-Ok-clause-content c done p rest parts count ordered =
    let front : take c.args.settled c.deref.result.now ≡ done =
    ap (λ (es : Entries). take c.args.settled es) (c.deref.ensures.value ∙ parts) ∙ ap (λ (n : ℕ). take n (done ++ p ∷ rest)) count
    ∙ take-append_seam done (p ∷ rest) in
    let at_seam : (e : Value × Value) → get_or c.args.pairs.now.items c.args.settled e ≡ p =
    λ e. ap (λ (es : Entries). get_or es c.args.settled e) parts ∙ get_or_at done p rest e c.args.settled (sym count) in
    let key : c.index.result.now ≡ p = c.index.ensures ∙ at_seam c.index.result.now in
    let value : c.remove-key.result ≡ p = c.remove-key.ensures.value ∙ at_seam c.remove-key.result in
    let gone : c.remove-key.new.self.items ≡ remove (done ++ p ∷ rest) (length done) =
    c.remove-key.ensures.items ∙ ap (λ (es : Entries). remove es c.args.settled) parts ∙ ap (λ (n : ℕ). remove (done ++ p ∷ rest) n) count in
    let found : IsPlaceOf c.index.result.now.0 (take c.args.settled c.deref.result.now) c.probe.result.0 =
    c.probe.ensures.place (subst AreOrdered (sym front) ordered) in
    let place : IsFoundAt p.0 done c.in-Ok.place = rw (front, key, c.in-Ok.is) at found in
    let inside : c.in-Ok.place < length done = rw (front, c.in-Ok.is) at c.probe.ensures.in_range in
    let pair = c.index_mut-pair.result.now in
    let settled =
    settles-found done rest p pair c.in-Ok.place inside place (c.index_mut-pair.ensures.value ∙ ap (λ (es : Entries). get_or es c.in-Ok.place pair) gone) in (
      ap (λ (w : Value). slice_set c.remove-key.new.self.items c.in-Ok.place (pair.0, w)) (c.replace.ensures.after ∙ ap (λ (e : Value × Value). e.1) value)
          ∙ ap (λ (es : Entries). slice_set es c.in-Ok.place (pair.0, p.1)) gone ∙ settled.0,
      count ∙ settled.1,
    )

pub returns-in_ok-insert-in-Err-clause-content : goal.returns-in_ok-insert-in-Err-clause-content
returns-in_ok-insert-in-Err-clause-content c done p rest parts count ordered =
    let front : take c.args.settled c.deref.result.now ≡ done =
    ap (λ (es : Entries). take c.args.settled es) (c.deref.ensures.value ∙ parts) ∙ ap (λ (n : ℕ). take n (done ++ p ∷ rest)) count
    ∙ take-append_seam done (p ∷ rest) in
    let at_seam : (e : Value × Value) → get_or c.args.pairs.now.items c.args.settled e ≡ p =
    λ e. ap (λ (es : Entries). get_or es c.args.settled e) parts ∙ get_or_at done p rest e c.args.settled (sym count) in
    let key : c.index.result.now ≡ p = c.index.ensures ∙ at_seam c.index.result.now in
    let value : c.remove-pair.result ≡ p = c.remove-pair.ensures.value ∙ at_seam c.remove-pair.result in
    let gone : c.remove-pair.new.self.items ≡ remove (done ++ p ∷ rest) (length done) =
    c.remove-pair.ensures.items ∙ ap (λ (es : Entries). remove es c.args.settled) parts ∙ ap (λ (n : ℕ). remove (done ++ p ∷ rest) n) count in
    let found : IsPlaceOf c.index.result.now.0 (take c.args.settled c.deref.result.now) c.probe.result.0 =
    c.probe.ensures.place (subst AreOrdered (sym front) ordered) in
    let place : IsMissingAt p.0 done c.in-Err.place = rw (front, key, c.in-Err.is) at found in
    let inside : c.in-Err.place ≤ length done = rw (front, c.in-Err.is) at c.probe.ensures.in_range in
    let settled = settles-missing done rest p c.in-Err.place inside place in (
      c.in_ok-insert-in-Err.ensures.items ∙ ap (λ (e : Value × Value). insert c.remove-pair.new.self.items c.in-Err.place e) value
          ∙ ap (λ (es : Entries). insert es c.in-Err.place p) gone ∙ settled.0,
      ap (λ (n : ℕ). n + 1) count ∙ settled.1,
    )

pub returns-then-place-settled-clause-content : goal.returns-then-place-settled-clause-content
returns-then-place-settled-clause-content c done p rest parts count ordered =
    let front : take c.args.settled c.deref.result.now ≡ done =
    ap (λ (es : Entries). take c.args.settled es) (c.deref.ensures.value ∙ parts) ∙ ap (λ (n : ℕ). take n (done ++ p ∷ rest)) count
    ∙ take-append_seam done (p ∷ rest) in
    let key : c.index.result.now ≡ p =
    c.index.ensures ∙ ap (λ (es : Entries). get_or es c.args.settled c.index.result.now) parts
    ∙ get_or_at done p rest c.index.result.now c.args.settled (sym count) in
    let found : IsPlaceOf c.index.result.now.0 (take c.args.settled c.deref.result.now) c.probe.result.0 =
    c.probe.ensures.place (subst AreOrdered (sym front) ordered) in
    let place : IsMissingAt p.0 done c.in-Err.place = rw (front, key, c.in-Err.is) at found in
    let settled = settles-behind done rest p c.in-Err.place (omega (arith, count)) place in
    (parts ∙ settled.0, ap (λ (n : ℕ). n + 1) count ∙ settled.1)

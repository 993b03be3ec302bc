-- Pairs of a list of which the first are put in key order already.
use Rattle.std.proofs.Common.{◌≡◌, ℕ, ◌+◌, ◌<◌, ◌≤◌, [], ◌∷◌, ◌++◌, length, length-set, get_or, append-nil, append_assoc, refl, sym, ap, ◌∙◌, arith}
use Rattle.std.specs.Prelude.{slice_set}
use Rattle.std.specs.List.{insert, remove}
use Rattle.std.proofs.lemmas.List.{set-append_left, get_or_append_left}
use Rattle.std.proofs.lemmas.List.Edits.{insert-append_left, insert_end, length-insert}
use Rattle.ron_value.specs.declared.value.Value.{Value}
use Rattle.ron_value.specs.Ordered.{IsOrdered}
use Rattle.ron_value.specs.View.{entries_tree}
use Rattle.ron_value.specs.Entries.{Entries, with_entry, with_entries, ArePartsOrdered}
use Rattle.ron_value.specs.Place.{IsFoundAt, IsMissingAt}
use Rattle.ron_value.proofs.OrderedEntries.{AreOrdered-with_entry}
use Rattle.ron_value.proofs.PlaceLemmas.{with_entry-found, with_entry-missing}

-- the first pairs are in order, and with the others put in they are the whole
pub record Settled (whole pairs : Entries) (n : ℕ) : Type 0 where
  pub done : Entries
  pub rest : Entries
  pub parts : pairs ≡ done ++ rest
  pub count : n ≡ length done
  pub content : with_entries rest done ≡ with_entries whole []
  pub ordered : IsOrdered (entries_tree done)
  pub others : ArePartsOrdered rest

remove-seam : (done rest : Entries) (p : Value × Value) → remove (done ++ p ∷ rest) (length done) ≡ done ++ rest
remove-seam [] rest p = refl
remove-seam (e ∷ done) rest p = ap (λ (es : Entries). e ∷ es) (remove-seam done rest p)

-- the key stands at place i of those in order: there the value is exchanged
pub settles-found : (done rest : Entries) (p d : Value × Value) (i : ℕ) → i < length done → IsFoundAt p.0 done i →
    d ≡ get_or (remove (done ++ p ∷ rest) (length done)) i d →
    (slice_set (remove (done ++ p ∷ rest) (length done)) i (d.0, p.1) ≡ with_entry p.0 p.1 done ++ rest) × (length done ≡ length (with_entry p.0 p.1 done))
settles-found done rest p d i inside place is =
    let there : d ≡ get_or done i d = is ∙ ap (λ (es : Entries). get_or es i d) (remove-seam done rest p) ∙ get_or_append_left done rest d i inside in
    let put : with_entry p.0 p.1 done ≡ slice_set done i (d.0, p.1) =
    with_entry-found p.0 done i d p.1 place ∙ ap (λ (e : Value × Value). slice_set done i (e.0, p.1)) (sym there) in (
      ap (λ (es : Entries). slice_set es i (d.0, p.1)) (remove-seam done rest p) ∙ set-append_left done rest i (d.0, p.1) inside
          ∙ ap (λ (es : Entries). es ++ rest) (sym put),
      sym (ap (λ (es : Entries). length es) put ∙ length-set done i (d.0, p.1)),
    )

-- the key belongs to place i of those in order: there it is put
pub settles-missing : (done rest : Entries) (p : Value × Value) (i : ℕ) → i ≤ length done → IsMissingAt p.0 done i →
    (insert (remove (done ++ p ∷ rest) (length done)) i p ≡ with_entry p.0 p.1 done ++ rest) × (length done + 1 ≡ length (with_entry p.0 p.1 done))
settles-missing done rest p i inside place =
    let put : with_entry p.0 p.1 done ≡ insert done i p = with_entry-missing p.0 done i p.1 place in (
      ap (λ (es : Entries). insert es i p) (remove-seam done rest p) ∙ insert-append_left done rest i p inside ∙ ap (λ (es : Entries). es ++ rest) (sym put),
      sym (ap (λ (es : Entries). length es) put ∙ length-insert done i p inside),
    )

-- the key is above all of those in order: there it stands already
pub settles-behind : (done rest : Entries) (p : Value × Value) (i : ℕ) → i ≡ length done → IsMissingAt p.0 done i →
    (done ++ p ∷ rest ≡ with_entry p.0 p.1 done ++ rest) × (length done + 1 ≡ length (with_entry p.0 p.1 done))
settles-behind done rest p i last place =
    let put : with_entry p.0 p.1 done ≡ insert done i p = with_entry-missing p.0 done i p.1 place in
    let behind : with_entry p.0 p.1 done ≡ done ++ p ∷ [] = put ∙ ap (λ (n : ℕ). insert done n p) last ∙ insert_end done p in (
      sym (ap (λ (es : Entries). es ++ rest) behind ∙ append_assoc done (p ∷ []) rest),
      sym (ap (λ (es : Entries). length es) put ∙ length-insert done i p (omega (arith, last))),
    )

-- where one more is put among them, that many are in order
settled_on : (whole pairs new done rest : Entries) (n m : ℕ) → pairs ≡ done ++ rest → n ≡ length done → with_entries rest done ≡ with_entries whole []
    → IsOrdered (entries_tree done) → ArePartsOrdered rest → n < length pairs →
    ((ds : Entries) → (p : Value × Value) → (ps : Entries) → pairs ≡ ds ++ (p ∷ ps) → n ≡ length ds → IsOrdered (entries_tree ds)
    → (new ≡ with_entry p.0 p.1 ds ++ ps) × (m ≡ length (with_entry p.0 p.1 ds))) → Settled whole new m
settled_on whole pairs new done [] n m parts count content ordered others inside put =
    let long : length pairs ≡ length done = ap (λ (es : Entries). length es) (parts ∙ append-nil done) in
    absurd (omega (arith, long, count, inside))
settled_on whole pairs new done (p ∷ rest) n m parts count content ordered others inside put =
    let is = put done p rest parts count ordered in
    record {
      done = with_entry p.0 p.1 done;
      rest = rest;
      parts = is.0;
      count = is.1;
      content = content;
      ordered = AreOrdered-with_entry p.0 p.1 done ordered others.0 others.1;
      others = others.2;
    }

pub settled-more : (whole pairs new : Entries) (n m : ℕ) → Settled whole pairs n → n < length pairs →
    ((ds : Entries) → (p : Value × Value) → (ps : Entries) → pairs ≡ ds ++ (p ∷ ps) → n ≡ length ds → IsOrdered (entries_tree ds)
    → (new ≡ with_entry p.0 p.1 ds ++ ps) × (m ≡ length (with_entry p.0 p.1 ds))) → Settled whole new m
settled-more whole pairs new n m s inside put = settled_on whole pairs new s.done s.rest n m s.parts s.count s.content s.ordered s.others inside put

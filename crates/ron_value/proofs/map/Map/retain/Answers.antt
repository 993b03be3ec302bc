use Rattle.std.proofs.Common.{◌≡◌, Bool, List, [], ◌∷◌, length, rules, refl, sym, subst, arith}
use Rattle.std.specs.Borrow.{Bor}
use Rattle.std.specs.List.{AllZip}
use Rattle.std.specs.List.Retain.{ReturnsInTurn}
use Rattle.std.proofs.lemmas.Fn.{filter_same}
use Rattle.ron_value.specs.declared.value.Value.{Value}
use Rattle.ron_value.specs.View.{entries}
use Rattle.ron_value.specs.Entries.{Entries, MayAnswer}
use Rattle.ron_value.proofs.OrderedEntries.{AreOrdered, AreOrdered-items_where_true}
use Rattle.ron_value.proofs.map.Map.retain.Goals as goal

-- each answer of a closure that no call changes is one that it may give
answered_in_turn : {F : Type 0} (R : F → Value × Value → Bool → F → Type 0) (Answers : Bor Value → Bor Value → Bool → Type 0) (f : F)
    → ((Tells : Bool → Value → Value → Type 0) → ((k v : Bor Value) (b : Bool) → Answers k v b → Tells b k.now v.now) → (e : Value × Value) (b : Bool) (h : F)
    → R f e b h → Tells b e.0 e.1 × (h ≡ f))
    → (bs : List Bool) (es : Entries) (h : F) → length bs ≡ length es → ReturnsInTurn R f bs es h → AllZip (λ b e. MayAnswer Answers b e.0 e.1) bs es
answered_in_turn R Answers f step [] [] h long told = tt
answered_in_turn R Answers f step [] (e ∷ es) h long told = absurd (omega arith)
answered_in_turn R Answers f step (b ∷ bs) [] h long told = absurd told
answered_in_turn R Answers f step (b ∷ bs) (e ∷ es) h long told =
    let one = step (MayAnswer Answers) (λ k v a given. record { key = k; value = v; at_key = refl; at_value = refl; given = given }) e b told.0 told.1 in
    (one.0, answered_in_turn R Answers f step bs es h (omega arith) (subst (λ y. ReturnsInTurn R y bs es h) one.1 told.2))

pub returns-clause-content : goal.returns-clause-content
returns-clause-content g c test tells = filter_same _ (λ e. test e.0 e.1) _ (λ x b f called. search (rules, tells)) _ _ c.retain.ensures.filtered

pub returns-clause-chosen : goal.returns-clause-chosen
returns-clause-chosen g c =
    let kept = c.retain.ensures.filtered in
    (kept.0, answered_in_turn _ _ _ (λ Tells tells e b f called. search (rules, tells)) kept.0 _ kept.1 kept.2 kept.3, kept.4)

pub returns-clause-ordered : goal.returns-clause-ordered
returns-clause-ordered g c ordered =
    let kept = c.retain.ensures.filtered in
    let es : Entries = entries c.args.self.now in
    subst AreOrdered {y = c.retain.new.self.items} (sym {a = c.retain.new.self.items} kept.4) (AreOrdered-items_where_true kept.0 es ordered)

-- Attributes, beside the steps of the code.
use Rattle.std.proofs.Common.{◌≡◌, ℕ, ◌≤◌, true, false, List, [], ◌∷◌, ◌++◌, length, Some, None, refl, sym, ap, ap₂, ◌∙◌, arith}
use Rattle.ron_spec_words.specs.Characters.{Text}
use Rattle.ron_spec_words.specs.Runs.{is_at}
use Rattle.ron_spec_words.specs.Gap.{skip, gap_of}
use Rattle.ron_spec_words.specs.Lang.{done}
use Rattle.ron_spec_words.specs.Reader.{bad, Got, got, failed, mark, in_sequence, and_then, after_gap, given, group}
use Rattle.ron_spec_words.specs.Turns.{all_items, rest_of_group}
use Rattle.ron_spec_words.proofs.Turns.{after_slash, after_other, no_mark, in_order}
use Rattle.ron_base.specs.Extensions.{no_extensions, union}
use Rattle.ron_base.specs.declared.error.Error.{Error}
use Rattle.ron_base.specs.Class.{ErrorClass, memory, depth, other, class_of}
use Rattle.ron_spec_grammar.specs.Rule.{Extensions}
use Rattle.ron_spec_grammar.specs.Attribute.{in_force, together, extension, names, in_brackets, attribute, value_start, names_from}
use Rattle.ron_spec_grammar.proofs.AttributeTurns.{names_over, names_failed, names_last, names_not_closed, names_more, start_is, start_behind}
use Rattle.ron_lex.specs.Place.{Place}
use Rattle.ron_de_steps.specs.Reads.{IsFaultOf}
use Rattle.ron_de_steps.specs.Errors.{IsMemoryOr, IsMemoryOrClass}
use Rattle.ron_de_steps.specs.Steps.{past_mark, past_item}
use Rattle.ron_de_steps.proofs.ErrorLemmas.{memory_or_more}
use Rattle.ron_de_steps.proofs.StepLemmas.{marked, unmarked}
use Rattle.ron_de_steps.proofs.ItemLemmas.{HasTurns, ItemsRead, items_over, comma_fails, one_more, at_mark, tail_same}

-- ---- names

abbrev pub an_extension : ℕ → List Extensions → Text → Text → Got Extensions
an_extension room seen gap s = extension s

abbrev pub all_names : ℕ → List Extensions → Text → Text → Got Extensions
all_names room seen gap s = names_from seen gap s

pub names_turns : HasTurns an_extension all_names 41 together
names_turns = record {
  over = λ room seen gap s. names_over seen gap s;
  fails = λ room seen gap s still. names_failed seen gap s still;
  last = λ room seen gap s still a rest u e. names_last seen gap s still a rest e u;
  stays_open = λ room seen gap s still a rest e. names_not_closed seen gap s still a rest e;
  goes_on = λ room seen gap s still a rest u e. names_more seen gap s still a rest e u;
  no_slash = refl;
}

abbrev pub no_levels : ℕ → ℕ
no_levels n = 0

-- so far: these extensions are named, by one name or more at the closing parenthesis
pub record NamesRead (found : Extensions) (old now : Place) : Type 0 where
  pub seen : List Extensions
  pub together_found : in_force no_extensions (all_items seen []) ≡ found
  pub begun : is_at 41 now.rest ≡ true → together (all_items seen []) ≡ Some found
  pub items : ItemsRead an_extension all_names 41 together names_turns None no_levels (λ m n le. omega arith) seen old now

in_force_and : (x e : Extensions) (es : List Extensions) → in_force x (es ++ e ∷ []) ≡ union (in_force x es) e
in_force_and x e [] = refl
in_force_and x e (f ∷ es) = in_force_and (union x f) e es

together_and : (e : Extensions) (es : List Extensions) → together (es ++ e ∷ []) ≡ Some (union (in_force no_extensions es) e)
together_and e [] = refl
together_and e (f ∷ es) = ap Some (in_force_and f e es)

-- what is refused where nothing but memory could be wanted
pub refused_here : {A : Type 0} (P : Type 0) (k : ErrorClass) (answer : Got A) → IsMemoryOrClass P k → IsFaultOf k answer
    → IsMemoryOrClass (answer ≡ failed bad) k
refused_here P memory answer t f = tt
refused_here P depth answer t f = absurd t
refused_here P other answer t f = f

module _ (found : Extensions) (old now : Place) (h : NamesRead found old now) where
  module _ (still : is_at 41 now.rest ≡ false) where
    pub name_refused : (e : Error) → IsMemoryOr (extension now.rest ≡ failed bad) e → IsMemoryOr (names_from [] old.gap old.rest ≡ failed bad) e
    name_refused e f = memory_or_more e (λ k. h.items.reads 0 (omega arith) ∙ names_failed h.seen now.gap now.rest still bad k) f

    module _ (named : Extensions) (rest : Text) (g : extension now.rest ≡ got named rest) where
      pub no_comma_behind : (e : Error) → IsMemoryOr (past_item 41 rest ≡ None) e → IsMemoryOr (names_from [] old.gap old.rest ≡ failed bad) e
      no_comma_behind e t =
          refused_here _ (class_of e) _ t (comma_fails _ _ _ _ _ _ _ _ h.seen old now h.items still named rest (λ room r. g) e t 0 (omega arith))

      pub name_more : (next : Place) → past_item 41 rest ≡ Some (next.gap, next.rest) → length next.rest ≤ length now.rest
          → NamesRead (union found named) old next
      name_more next c shorter =
          let order : all_items (named ∷ h.seen) [] ≡ all_items h.seen [] ++ named ∷ [] = in_order h.seen [] (named ∷ []) in
          let all : union (in_force no_extensions (all_items h.seen [])) named ≡ union found named = ap (λ (x : Extensions). union x named) h.together_found in
          record {
            seen = named ∷ h.seen;
            together_found = ap (in_force no_extensions) order ∙ in_force_and no_extensions named (all_items h.seen []) ∙ all;
            begun = λ _. ap together order ∙ together_and named (all_items h.seen []) ∙ ap Some all;
            items = one_more _ _ _ _ _ _ _ _ h.seen old now h.items still named rest (λ room r. g) next c shorter;
          }

  pub names_all : is_at 41 now.rest ≡ true → (u : Text) × (now.rest ≡ 41 ∷ u) × (names_from [] old.gap old.rest ≡ got found u)
  names_all over = let b = at_mark 41 now.rest over in
      (b.0, b.1, items_over _ _ _ _ _ _ _ _ h.seen old now h.items b.0 b.1 0 (omega arith) ∙ ap (λ o. given o b.0) (h.begun over))

-- no name stands there
pub none_named : (gap s : Text) → is_at 41 s ≡ true → names_from [] gap s ≡ failed bad
none_named gap s over = let b = at_mark 41 s over in names_over [] gap s b.0 b.1

pub names_at : (s : Text) (p : Text × Text) → past_mark 40 s ≡ Some p → names s ≡ names_from [] p.0 p.1
unfolding names_from rest_of_group
names_at s p e = marked 40 (names_from []) s p e

pub names_closed : (found : Extensions) (s rest end : Text) (p : Text × Text) → past_mark 40 s ≡ Some p
    → (u : Text) × (rest ≡ 41 ∷ u) × (names_from [] p.0 p.1 ≡ got found u) → rest ≡ 41 ∷ end → names s ≡ got found end
names_closed found s rest end p e q over = let same : q.0 ≡ end = tail_same q.0 end (sym q.1 ∙ over) in names_at s p e ∙ q.2 ∙ ap (got found) same

-- ---- an attribute

-- behind its three marks
module _ (s : Text) where
  attribute_first : attribute s ≡ in_sequence (mark 35 done) (λ _ _. in_sequence (mark 33 done) (λ _ _. group 91 93 (λ _. in_brackets))) s
  unfolding attribute
  attribute_first = refl

  pub no_first_mark : past_mark 35 s ≡ None → attribute s ≡ failed bad
  no_first_mark e = attribute_first ∙ unmarked 35 (λ _. in_sequence (mark 33 done) (λ _ _. group 91 93 (λ _. in_brackets))) s e

  module _ (p : Text × Text) (e : past_mark 35 s ≡ Some p) where
    attribute_second : attribute s ≡ in_sequence (mark 33 done) (λ _ _. group 91 93 (λ _. in_brackets)) p.1
    attribute_second = attribute_first ∙ marked 35 (λ _. in_sequence (mark 33 done) (λ _ _. group 91 93 (λ _. in_brackets))) s p e

    pub no_second_mark : past_mark 33 p.1 ≡ None → attribute s ≡ failed bad
    no_second_mark f = attribute_second ∙ unmarked 33 (λ _. group 91 93 (λ _. in_brackets)) p.1 f

    module _ (q : Text × Text) (f : past_mark 33 p.1 ≡ Some q) where
      attribute_third : attribute s ≡ group 91 93 (λ _. in_brackets) q.1
      attribute_third = attribute_second ∙ marked 33 (λ _. group 91 93 (λ _. in_brackets)) p.1 q f

      pub no_third_mark : past_mark 91 q.1 ≡ None → attribute s ≡ failed bad
      no_third_mark g = attribute_third ∙ unmarked 91 (λ _. in_sequence in_brackets (λ x _. mark 93 x)) q.1 g

      module _ (r : Text × Text) (g : past_mark 91 q.1 ≡ Some r) where
        attribute_inside : attribute s ≡ in_sequence in_brackets (λ x _. mark 93 x) r.1
        attribute_inside = attribute_third ∙ marked 91 (λ _. in_sequence in_brackets (λ x _. mark 93 x)) q.1 r g

        pub nothing_inside : in_brackets r.1 ≡ failed bad → attribute s ≡ failed bad
        nothing_inside k = attribute_inside ∙ ap (λ o. and_then o (λ x _. mark 93 x)) k

        module _ (x : Extensions) (u : Text) (k : in_brackets r.1 ≡ got x u) where
          attribute_end : attribute s ≡ after_gap (λ _. mark 93 x) u
          attribute_end = attribute_inside ∙ ap (λ o. and_then o (λ x _. mark 93 x)) k

          pub slash_inside : is_at 47 (skip u) ≡ true → attribute s ≡ failed bad
          slash_inside m = attribute_end ∙ after_slash (λ _. mark 93 x) u m

          pub attribute_read : (end : Text) → is_at 47 (skip u) ≡ false → skip u ≡ 93 ∷ end → attribute s ≡ got x end
          attribute_read end m c = attribute_end ∙ after_other (λ _. mark 93 x) u m ∙ ap (mark 93 x) c

          pub attribute_open : is_at 47 (skip u) ≡ false → is_at 93 (skip u) ≡ false → attribute s ≡ failed bad
          attribute_open m c = attribute_end ∙ after_other (λ _. mark 93 x) u m ∙ no_mark 93 x (skip u) c

-- ---- a head

-- the value begins, or an attribute
pub at_start : (x : Extensions) (s gap rest : Text) → is_at 47 (skip s) ≡ false → gap ≡ gap_of s → rest ≡ skip s → value_start x s ≡ start_behind x gap rest
at_start x s gap rest m g r = start_is x s ∙ after_other (start_behind x) s m ∙ ap₂ (start_behind x) (sym g) (sym r)

pub slash_at_start : (x : Extensions) (s : Text) → is_at 47 (skip s) ≡ true → value_start x s ≡ failed bad
slash_at_start x s m = start_is x s ∙ after_slash (start_behind x) s m

module _ (x : Extensions) (gap s : Text) (hash : is_at 35 s ≡ true) where
  pub past_attribute : (y : Extensions) (u : Text) → attribute s ≡ got y u → start_behind x gap s ≡ value_start (union x y) u
  past_attribute y u k = rw (hash, k) refl

  -- so from where it began
  pub further : (first : Extensions) (old : Text) → value_start first old ≡ start_behind x gap s → (y : Extensions) (u : Text) → attribute s ≡ got y u
      → value_start first old ≡ value_start (union x y) u
  further first old h y u k = h ∙ past_attribute y u k

-- ---- the names in parentheses

pub names_refused : (e : Error) (s : Text) (p : Text × Text) → past_mark 40 s ≡ Some p → IsMemoryOr (names_from [] p.0 p.1 ≡ failed bad) e
    → IsMemoryOr (names s ≡ failed bad) e
names_refused e s p m h = memory_or_more e (λ k. names_at s p m ∙ k) h

-- where an attribute begins, one begins
pub begun : (s rest : Text) → is_at 35 (skip s) ≡ false → rest ≡ skip s → is_at 35 rest ≡ true → ⊥
begun s rest none e some = let same = ap (is_at 35) e in cc

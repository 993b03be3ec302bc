use Rattle.std.proofs.Common.{◌≡◌, ℕ, List, [], ◌∷◌, ◌==◌, false, true, not, length, chars, encode_utf8_all, refl, sym, ap, ◌∙◌, arith}
use Rattle.std.specs.List.{list_all}
use Rattle.std.proofs.lemmas.Bool.{false≢true}
use Rattle.std.proofs.lemmas.Bool.Decides.{nat_tests}
use Rattle.std.proofs.lemmas.Str.{encodes-chars, chars-nil}
use Rattle.std.proofs.lemmas.List.{nil_from_length}
use Rattle.ron_spec_words.specs.Characters.{Text, in_raw_name}
use Rattle.ron_spec_words.specs.Name.{is_name}
use Rattle.ron_base.proofs.name.is_name.Goals as goal

-- a text that is not empty has a character
by_all : (cs : Text) (name : List ℕ) → encode_utf8_all cs ≡ name → (length name == 0) ≡ false → list_all in_raw_name cs ≡ is_name cs
by_all [] name e some = absurd (false≢true (sym some ∙ ap (λ bs. length bs == 0) (sym e)))
by_all (c ∷ cs) name e some = refl

is_zero : (n : ℕ) → (n == 0) ≡ true → n ≡ 0
is_zero n h = grind (arith, nat_tests)

pub returns-then-not-is_empty : goal.returns-then-not-is_empty
returns-then-not-is_empty c =
    let name = c.args.name.now in
    c.are_in_raw_name.ensures ∙ by_all (chars name) name (encodes-chars name c.utf8.name) (sym c.if-not-is_empty.ensures)

pub returns-else-not-is_empty : goal.returns-else-not-is_empty
returns-else-not-is_empty c =
    let none : c.args.name.now ≡ [] = nil_from_length _ (is_zero _ (sym c.if-not-is_empty.ensures)) in
    ap not c.if-not-is_empty.false ∙ sym (ap (λ bs. is_name (chars bs)) none ∙ ap is_name chars-nil)

-- What stands around items, in the order in which code writes it.
use Rattle.std.proofs.Common.{◌≡◌, ℕ, zero, suc, ◌<◌, ◌==◌, ◌∷◌, arith, Bool, true, false, ◌&&◌, nat_le, cond, List, [], ◌++◌, codes, encode_utf8_all, length}
use Rattle.std.proofs.Common.{refl, sym, ap, ◌∙◌}
use Rattle.std.specs.Fmt.{decimal}
use Rattle.std.proofs.lemmas.Bool.{eqb-true}
use Rattle.std.proofs.lemmas.Str.{encodes-append}
use Rattle.ron_spec_words.specs.Characters.{Text}
use Rattle.ron_spec_layout.specs.Config.{Config, Spacing, on_lines, in_a_row, line_at}
use Rattle.ron_spec_layout.proofs.Bytes.{ascii_text, decimal_bytes, bytes-enclosed}
use Rattle.ron_ser.specs.declared.container.Container.{Container}
use Rattle.ron_ser.specs.Place.{Place, is_list, spacing_in, inside, comma, separator_at, before_any, before}

-- the comment before an item of this number
abbrev pub number_comment : ℕ → List ℕ
number_comment n = codes "/*[" ++ (decimal n ++ codes "]*/ ")

comment_ascii : (n : ℕ) → encode_utf8_all (number_comment n) ≡ number_comment n
comment_ascii n = bytes-enclosed (codes "/*[") (codes "]*/ ") (decimal n) refl refl ∙ ap (λ u. codes "/*[" ++ (u ++ codes "]*/ ")) (decimal_bytes n)

comma_ascii : (n : ℕ) → encode_utf8_all (comma n) ≡ comma n
comma_ascii zero = refl
comma_ascii (suc n) = ascii_text (codes ",") refl

-- a comment that is written or not
commented : (a b : Bool) (u v : Text) → (a && b) ≡ true → cond a (u ++ cond b v []) u ≡ u ++ v
commented true true u v h = refl
commented true false u v h = absurd (cc)
commented false b u v h = absurd (cc)

module _ (p : Place) (k : Container) (n : ℕ) where
  abbrev pub is_numbered : Bool
  is_numbered = is_list k && (p.config.enumerate_arrays && nat_le (inside k p).level p.config.depth_limit)

  pub before_numbered : is_numbered ≡ true → encode_utf8_all (before p k n) ≡ encode_utf8_all (before_any (spacing_in p k) n) ++ number_comment n
  before_numbered h =
      ap encode_utf8_all
      (commented (is_list k) (p.config.enumerate_arrays && nat_le (inside k p).level p.config.depth_limit) (before_any (spacing_in p k) n) (number_comment n) h)
      ∙ encodes-append (before_any (spacing_in p k) n) (number_comment n) ∙ ap (λ u. encode_utf8_all (before_any (spacing_in p k) n) ++ u) (comment_ascii n)

-- on a line of its own, and in a row
line_before : (c : Config) (level n : ℕ) → before_any (on_lines c level) n ≡ comma n ++ line_at c (suc level)
line_before c level zero = refl
line_before c level (suc n) = refl

row_before : (c : Config) (n : ℕ) → before_any (in_a_row c) n ≡ comma n ++ separator_at c n
row_before c zero = refl
row_before c (suc n) = refl

pub behind_comma : (n : ℕ) (t : Text) → encode_utf8_all (comma n ++ t) ≡ comma n ++ encode_utf8_all t
behind_comma n t = encodes-append (comma n) t ∙ ap (λ u. u ++ encode_utf8_all t) (comma_ascii n)

pub bytes_on_lines : (s : Spacing) (c : Config) (outer level n : ℕ) → s ≡ on_lines c outer → level ≡ suc outer
    → encode_utf8_all (before_any s n) ≡ comma n ++ encode_utf8_all (line_at c level)
bytes_on_lines s c outer level n e l = ap (λ s. encode_utf8_all (before_any s n)) e ∙ ap encode_utf8_all (line_before c outer n)
    ∙ behind_comma n (line_at c (suc outer)) ∙ ap (λ l. comma n ++ encode_utf8_all (line_at c l)) (sym l)

pub bytes_in_row : (s : Spacing) (c : Config) (n : ℕ) → s ≡ in_a_row c → encode_utf8_all (before_any s n) ≡ comma n ++ encode_utf8_all (separator_at c n)
bytes_in_row s c n e = ap (λ s. encode_utf8_all (before_any s n)) e ∙ ap encode_utf8_all (row_before c n) ∙ behind_comma n (separator_at c n)

-- ---- texts

pub separator_later : (c : Config) (n : ℕ) → 0 < n → separator_at c n ≡ c.separator
separator_later c zero h = absurd (omega (arith, h))
separator_later c (suc n) h = refl

pub comma_later : (n : ℕ) → 0 < n → codes "," ≡ comma n
comma_later zero h = absurd (omega (arith, h))
comma_later (suc n) h = refl

pub nothing_left : (bs : List ℕ) → (length bs == 0) ≡ true → bs ≡ []
nothing_left [] h = refl
nothing_left (b ∷ bs) h = absurd (let none = eqb-true (length (b ∷ bs)) 0 h in omega (arith, none))

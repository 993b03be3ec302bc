-- Gaps that whatever follows: those of a configuration.
use Rattle.std.proofs.Common.{◌≡◌, ℕ, zero, suc, ◌-◌, ◌==◌, Bool, true, false, cond, not, ◌&&◌, ◌||◌, nat_lt, nat_le, ◌⊎◌, inl, inr, List, [], ◌∷◌, ◌++◌, codes}
use Rattle.std.proofs.Common.{length, take, flat_map, refl, sym, ap, ◌∙◌, subst, append_assoc, eqb-true}
use Rattle.std.specs.List.{list_all, list_any, slice_split, onto_first}
use Rattle.std.specs.Str.Lines.{lines_of_parts, lines}
use Rattle.std.specs.Prelude.{slice_index}
use Rattle.std.specs.Fmt.{decimal}
use Rattle.std.specs.Char.{is_ascii_digit}
use Rattle.std.proofs.lemmas.Bool.{and_parts}
use Rattle.ron_spec_words.specs.Characters.{Text, is_blank, line_feed}
use Rattle.ron_spec_words.specs.Runs.{Every}
use Rattle.ron_spec_words.specs.Gap.{in_line, Inside, nothing, character, Piece, blank, line, block, Gap, none, piece, skip}
use Rattle.ron_spec_words.specs.Lang.{Lang}
use Rattle.ron_spec_words.proofs.Gaps.{skip-gap}
use Rattle.ron_spec_words.proofs.Classes.{apart}
use Rattle.ron_spec_layout.specs.Stand.{StandsFirst, Stands}
use Rattle.ron_spec_layout.specs.Config.{Docs, no_docs, Config, ends_lines, Spacing, times, line_at, on_lines, in_a_row, spacing, item_comment}
use Rattle.ron_spec_layout.specs.Config as config
use Rattle.ron_spec_layout.specs.Docs.{doc_of, docs_within, indentation, doc_line, doc_lines, doc_comment}
use Rattle.ron_spec_grammar.proofs.Raw.Moves.{gap_any}
use Rattle.ron_spec_grammar.proofs.Raw.Gaps.{gap_append}
use Rattle.ron_spec_layout.proofs.Integers.{decimal_every}

-- blanks and comments, each with its end: a gap where something follows
abbrev pub Closed : Text → Type 0
Closed g = Gap g (44 ∷ [])

pub before_any : {g : Text} → Closed g → (s : Text) → Gap g s
before_any h s = gap_any h (λ e. cc) s

pub closed_append : {g h : Text} → Closed g → Closed h → Closed (g ++ h)
closed_append h k = gap_append h (λ e. cc) k

pub skip-closed : {g : Text} → Closed g → (s : Text) → skip (g ++ s) ≡ skip s
skip-closed h s = skip-gap (before_any h s)

-- ---- what stands behind a gap

-- a gap before a text that begins at once
pub led : {A : Type 0} {L : Text → Lang A} {g t next : Text} {a : A} → Closed g → StandsFirst (L g) t next a → Stands L (g ++ t) next a
led {g = g} {t = t} {next = next} h k = record { before = g; text_from = t; split = refl; is_before = before_any h (t ++ next); from = k }

-- and before one that begins with a gap, where the language does not see it
pub led_more : {A : Type 0} {L : Lang A} {g t next : Text} {a : A} → Closed g → Stands (λ _. L) t next a → Stands (λ _. L) (g ++ t) next a
led_more {g = g} {t = t} {next = next} h k = record {
  before = g ++ k.before;
  text_from = k.text_from;
  split = ap (λ u. g ++ u) k.split ∙ sym (append_assoc g k.before k.text_from);
  is_before = gap_append (before_any h (44 ∷ [])) (λ e. cc) k.is_before;
  from = k.from;
}

-- ---- blanks

pub closed_blanks : (t : Text) → list_all is_blank t ≡ true → Closed t
closed_blanks [] h = none
closed_blanks (c ∷ t) h = let k = and_parts (is_blank c) (list_all is_blank t) h in piece (c ∷ []) t (44 ∷ []) (blank c k.0) (closed_blanks t k.1)

pub closed_times : {g : Text} (n : ℕ) → Closed g → Closed (times n g)
closed_times zero h = none
closed_times (suc n) h = closed_append h (closed_times n h)

-- the texts of the configuration are gaps
pub record AreGaps (c : Config) : Type 0 where
  pub new_line : Closed c.new_line
  pub indentor : Closed c.indentor
  pub separator : Closed c.separator
  pub blank_line : list_all is_blank c.new_line ≡ true

pub are_gaps : (c : Config) → config.blank c ≡ true → AreGaps c
are_gaps c h =
    let k = and_parts (list_all is_blank c.new_line) (list_all is_blank c.indentor && list_all is_blank c.separator) h in
    let l = and_parts (list_all is_blank c.indentor) (list_all is_blank c.separator) k.1 in
    record { new_line = closed_blanks c.new_line k.0; indentor = closed_blanks c.indentor l.0; separator = closed_blanks c.separator l.1; blank_line = k.0 }

-- ---- comments on items

-- no end of a comment begins at a character that is neither `/` nor `*`
plain : (c : ℕ) (t : Text) → (c == 47) ≡ false → (c == 42) ≡ false → Inside t → Inside (c ∷ t)
plain c t s a h = character c t (rw s refl, rw a refl) h

inside_digits : (ds t : Text) → Every is_ascii_digit ds → Inside t → Inside (ds ++ t)
inside_digits [] t h k = k
inside_digits (c ∷ ds) t h k = plain c (ds ++ t) (apart is_ascii_digit 47 c refl h.0) (apart is_ascii_digit 42 c refl h.0) (inside_digits ds t h.1 k)

closed_number : (k : ℕ) → Closed (codes "/*[" ++ (decimal k ++ codes "]*/ "))
closed_number k =
    let inner = 91 ∷ (decimal k ++ 93 ∷ []) in
    let h : Piece (47 ∷ 42 ∷ (inner ++ 42 ∷ 47 ∷ [])) =
    block inner (plain 91 (decimal k ++ 93 ∷ []) refl refl (inside_digits (decimal k) (93 ∷ []) (decimal_every k) (plain 93 [] refl refl nothing))) in
    let all : Closed ((47 ∷ 42 ∷ (inner ++ 42 ∷ 47 ∷ [])) ++ (32 ∷ [])) =
    piece (47 ∷ 42 ∷ (inner ++ 42 ∷ 47 ∷ [])) (32 ∷ []) (44 ∷ []) h (piece (32 ∷ []) [] (44 ∷ []) (blank 32 refl) none) in
    let same : (47 ∷ 42 ∷ (inner ++ 42 ∷ 47 ∷ [])) ++ (32 ∷ []) ≡ codes "/*[" ++ (decimal k ++ codes "]*/ ") =
    ap (λ u. 47 ∷ 42 ∷ 91 ∷ u) (append_assoc (decimal k ++ 93 ∷ []) (42 ∷ 47 ∷ []) (32 ∷ []) ∙ append_assoc (decimal k) (93 ∷ []) (42 ∷ 47 ∷ 32 ∷ [])) in
    subst Closed same all

pub closed_comment : (c : Config) (level k : ℕ) → Closed (item_comment c level k)
closed_comment c level k = go (c.enumerate_arrays && nat_le level c.depth_limit)
  where
    go : (b : Bool) → Closed (cond b (codes "/*[" ++ (decimal k ++ codes "]*/ ")) [])
    go true = closed_number k
    go false = none

-- ---- doc comments

-- no line holds an LF
abbrev AllInLine : List Text → Type 0
AllInLine [] = Unit {0}
AllInLine (t ∷ ts) = Every in_line t × AllInLine ts

in_line_take : (n : ℕ) (t : Text) → Every in_line t → Every in_line (take n t)
in_line_take zero t h = tt
in_line_take (suc n) [] h = tt
in_line_take (suc n) (c ∷ t) h = (h.0, in_line_take n t h.1)

parts_in_line : (bs : Text) → AllInLine (slice_split (λ b. b == 10) bs)
parts_in_line [] = (tt, tt)
parts_in_line (b ∷ bs) = go (b == 10) refl (slice_split (λ b. b == 10) bs) (parts_in_line bs)
  where
    first : (ts : List Text) → not (b == 10) ≡ true → AllInLine ts → AllInLine (onto_first b ts)
    first [] e h = ((e, tt), tt)
    first (t ∷ ts) e h = ((e, h.0), h.1)

    go : (q : Bool) → (b == 10) ≡ q → (ts : List Text) → AllInLine ts → AllInLine (cond q ([] ∷ ts) (onto_first b ts))
    go true e ts h = (tt, h)
    go false e ts h = first ts (ap not e) h

lines_in_line : (ts : List Text) → AllInLine ts → AllInLine (lines_of_parts ts)
lines_in_line [] h = tt
lines_in_line (t ∷ []) h = go (length t == 0)
  where
    go : (q : Bool) → AllInLine (cond q [] (t ∷ []))
    go true = tt
    go false = h
lines_in_line (t ∷ u ∷ more) h = (strip (slice_index t (length t - 1) == 13), lines_in_line (u ∷ more) h.1)
  where
    strip : (q : Bool) → Every in_line (cond q (take (length t - 1) t) t)
    strip true = in_line_take (length t - 1) t h.0
    strip false = h.0

-- a new line up to its first LF, and the rest
record Ended (t : Text) : Type 0 where
  front : Text
  rest : Text
  split : t ≡ front ++ line_feed ∷ rest
  in_line : Every in_line front
  closed : Closed rest

ended : (t : Text) → list_all is_blank t ≡ true → list_any (λ n. n == line_feed) t ≡ true → Ended t
ended [] h e = absurd (cc)
ended (c ∷ t) h e = let k = and_parts (is_blank c) (list_all is_blank t) h in go (c == line_feed) refl e k.1 (ended t k.1)
  where
    go : (q : Bool) → (c == line_feed) ≡ q → (q || list_any (λ n. n == line_feed) t) ≡ true → list_all is_blank t ≡ true
        → (list_any (λ n. n == line_feed) t ≡ true → Ended t) → Ended (c ∷ t)
    go true l z b f = record { front = []; rest = t; split = ap (λ u. u ∷ t) (eqb-true c line_feed l); in_line = tt; closed = closed_blanks t b }
    go false l z b f = let r = f z in
        record { front = c ∷ r.front; rest = r.rest; split = ap (λ u. c ∷ u) r.split; in_line = (ap not l, r.in_line); closed = r.closed }

every_append : (t u : Text) → Every in_line t → Every in_line u → Every in_line (t ++ u)
every_append [] u h k = k
every_append (c ∷ t) u h k = (h.0, every_append t u h.1 k)

-- a text with an LF somewhere behind it
closed_line : (t new_line : Text) → Every in_line t → Ended new_line → Closed (codes "/// " ++ (t ++ new_line))
closed_line t new_line h e =
    let inner = 47 ∷ 32 ∷ (t ++ e.front) in
    let p : Piece (47 ∷ 47 ∷ (inner ++ line_feed ∷ [])) = line inner (refl, (refl, every_append t e.front h e.in_line)) in
    let same : (47 ∷ 47 ∷ (inner ++ line_feed ∷ [])) ++ e.rest ≡ codes "/// " ++ (t ++ new_line) =
    ap (λ u. 47 ∷ 47 ∷ 47 ∷ 32 ∷ u)
    (append_assoc (t ++ e.front) (line_feed ∷ []) e.rest ∙ append_assoc t e.front (line_feed ∷ e.rest) ∙ ap (λ u. t ++ u) (sym e.split)) in
    subst Closed same (piece (47 ∷ 47 ∷ (inner ++ line_feed ∷ [])) e.rest (44 ∷ []) p e.closed)

-- Doc comments end: none is written, or a new line ends them.
abbrev pub DocsEnd : Config → Docs → Type 0
DocsEnd c docs = (docs ≡ no_docs) ⊎ (ends_lines c ≡ true)

pub ends_within : (c : Config) (docs : Docs) (name : Text) → DocsEnd c docs → DocsEnd c (docs_within docs name)
ends_within c docs name (inl e) = inl (ap (λ d. docs_within d name) e)
ends_within c docs name (inr e) = inr e

-- nothing, or a comma and a gap
abbrev pub IsLast : Text → Type 0
IsLast t = (t ≡ []) ⊎ ((g : Text) × (t ≡ 44 ∷ g) × Closed g)

pub record IsSpacing (s : Spacing) : Type 0 where
  pub first : Closed s.first
  pub between : Closed s.between
  pub last : IsLast s.last

module _ (c : Config) (gaps : AreGaps c) where
  closed_indentation : (level : ℕ) → Closed (indentation c level)
  closed_indentation level = go (nat_le level c.depth_limit)
    where
      go : (b : Bool) → Closed (cond b (times level c.indentor) [])
      go true = closed_times level gaps.indentor
      go false = none

  closed_lines : (level : ℕ) (ts : List Text) → AllInLine ts → Ended c.new_line → Closed (flat_map (doc_line c level) ts)
  closed_lines level [] h e = none
  closed_lines level (t ∷ ts) h e =
      let same : (codes "/// " ++ (t ++ c.new_line)) ++ indentation c level ≡ doc_line c level t =
      ap (λ u. 47 ∷ 47 ∷ 47 ∷ 32 ∷ u) (append_assoc t c.new_line (indentation c level)) in
      closed_append (subst Closed same (closed_append (closed_line t c.new_line h.0 e) (closed_indentation level))) (closed_lines level ts h.1 e)

  pub closed_doc : (level : ℕ) (docs : Docs) (name : Text) → DocsEnd c docs → Closed (doc_comment c level docs name)
  closed_doc level docs name h = go c.compact_structs
    where
      some : DocsEnd c docs → Closed (doc_lines c level (doc_of docs name))
      some (inl e) = subst (λ d. Closed (doc_lines c level (doc_of d name))) (sym e) none
      some (inr e) = closed_lines level (lines (doc_of docs name))
          (lines_in_line (slice_split (λ b. b == 10) (doc_of docs name)) (parts_in_line (doc_of docs name))) (ended c.new_line gaps.blank_line e)

      go : (b : Bool) → Closed (cond b [] (doc_lines c level (doc_of docs name)))
      go true = none
      go false = some h

  -- ---- spacing

  closed_line_at : (level : ℕ) → Closed (line_at c level)
  closed_line_at level = closed_append gaps.new_line (closed_times level gaps.indentor)

  pub is_spacing : (compact : Bool) (level : ℕ) → IsSpacing (spacing c compact level)
  is_spacing compact level = go (not compact && nat_lt level c.depth_limit)
    where
      go : (b : Bool) → IsSpacing (cond b (on_lines c level) (in_a_row c))
      go true = record { first = closed_line_at (suc level); between = closed_line_at (suc level); last = inr (line_at c level, refl, closed_line_at level) }
      go false = record { first = none; between = gaps.separator; last = inl refl }

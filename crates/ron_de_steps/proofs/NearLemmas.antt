-- Where steps lead: no more is left behind a word, a gap or a mark, and before a value stands a mark that no look goes over.
use Rattle.std.proofs.Common.{◌≡◌, ℕ, ◌==◌, ◌≤◌, ◌+◌, ◌⊎◌, inl, inr, Bool, true, false, cond, not, [], ◌∷◌, ◌++◌, codes, drop, Option, Some, None, Result, Ok}
use Rattle.std.proofs.Common.{Err, OnOk, eqb-true, refl, sym, ap, ◌∙◌, arith}
use Rattle.std.proofs.lemmas.Bool.{and_parts}
use Rattle.std.proofs.lemmas.Option.{same_Some}
use Rattle.ron_spec_words.specs.Characters.{Text}
use Rattle.ron_spec_words.specs.Runs.{Every, is_at, begins_with, after_run}
use Rattle.ron_spec_words.specs.Gap.{skip, gap_of}
use Rattle.ron_spec_words.specs.Lang.{Lang}
use Rattle.ron_spec_words.specs.Reader.{Reader, got}
use Rattle.ron_spec_words.specs.Directly.{stands}
use Rattle.ron_spec_words.specs.Exact.{Sound}
use Rattle.ron_spec_words.specs.Scan.{starts_gap, is_hash, starts_run}
use Rattle.ron_spec_words.specs.Beyond.{bytes_in, in_look, past_words, past_look, beyond}
use Rattle.ron_spec_words.specs.Name.{name, untyped_name}
use Rattle.ron_spec_words.specs.Quoted.{string, byte_string, char}
use Rattle.ron_spec_words.specs.Number.{Numeral}
use Rattle.ron_spec_words.specs.AnyInteger.{any_integer}
use Rattle.ron_spec_words.specs.Range.{Interval, number_or_range}
use Rattle.ron_spec_words.proofs.Gaps.{cut}
use Rattle.ron_spec_words.proofs.Direct.{begins-drop}
use Rattle.ron_spec_words.proofs.Names.{word_name, word_untyped_name}
use Rattle.ron_spec_words.proofs.Quotes.{word_char}
use Rattle.ron_spec_words.proofs.RawStrings.{word_string, word_byte_string}
use Rattle.ron_spec_words.proofs.AnyIntegers.{word_any_integer}
use Rattle.ron_spec_words.proofs.Ranges.{word_number_or_range}
use Rattle.ron_spec_words.proofs.Tokens.{starts_clear}
use Rattle.ron_spec_words.proofs.Walks.{is_other, run_other}
use Rattle.ron_spec_words.proofs.Sizes.{size_append, size_one, size_end, size_skip, word_stays, beyond_plain, beyond_no_more}
use Rattle.ron_spec_words.proofs.Eases.{name_eases, untyped_name_eases, string_eases, byte_string_eases, char_eases, any_integer_eases, number_or_range_eases}
use Rattle.ron_spec_words.proofs.Eases.{gap_eases, mark_eases, front_eases, plain_first}
use Rattle.ron_base.specs.declared.error.Error.{Error}
use Rattle.ron_lex.specs.Place.{Place}
use Rattle.ron_de_steps.specs.Steps.{unless_slash, past_mark, past_colon, past_close, past_comma, at_comma, past_item, past_last_comma, behind_mark}
use Rattle.ron_de_steps.specs.Steps.{behind_comma, GoesTo}
use Rattle.ron_de_steps.specs.Spends.{Nears, Opens, Enters}
use Rattle.ron_de_steps.proofs.StepLemmas.{unless_some}
use Rattle.ron_de_steps.proofs.ItemLemmas.{at_item, item_is}

-- ---- in turn

pub nears_here : (place : Place) → Nears place place
nears_here place = record { less = omega arith; eases = omega arith }

pub nears_on : (old mid new : Place) → Nears old mid → Nears mid new → Nears old new
nears_on old mid new h k = record { less = omega (arith, h.less, k.less); eases = omega (arith, h.eases, k.eases) }

pub enters_from : (old mid new : Place) → Nears old mid → Enters mid new → Enters old new
enters_from old mid new h k = record { with_gap = omega (arith, h.less, k.with_gap); past = omega (arith, h.eases, k.past) }

pub enters_nears : (old new : Place) → Enters old new → Nears old new
enters_nears old new h = record { less = omega (arith, h.with_gap); eases = omega (arith, h.past, beyond_no_more new.rest) }

-- ---- words

pub gap_nears : (old new : Place) → new.rest ≡ skip old.rest → Nears old new
gap_nears old new e =
    record { less = omega (arith, ap bytes_in e, size_skip old.rest); eases = omega (arith, ap (λ s. bytes_in (beyond s)) e, gap_eases old.rest) }

less_behind : {A : Type 0} (r : Reader A) (L : Lang A) → Sound r L → (s : Text) (a : A) (u : Text) → r s ≡ got a u → bytes_in u ≤ bytes_in s
less_behind r L sound s a u e = let y = sound s a u e in size_end y.stretch u s y.split

pub name_nears : (n : Text) (old new : Place) → name old.rest ≡ got n new.rest → Nears old new
name_nears n old new e = record { less = less_behind name _ word_name.sound old.rest n new.rest e; eases = name_eases old.rest n new.rest e }

pub untyped_name_nears : (n : Text) (old new : Place) → untyped_name old.rest ≡ got n new.rest → Nears old new
untyped_name_nears n old new e =
    record { less = less_behind untyped_name _ word_untyped_name.sound old.rest n new.rest e; eases = untyped_name_eases old.rest n new.rest e }

pub string_nears : (a : Text) (old new : Place) → string old.rest ≡ got a new.rest → Nears old new
string_nears a old new e = record { less = less_behind string _ word_string.sound old.rest a new.rest e; eases = string_eases old.rest a new.rest e }

pub byte_string_nears : (a : Text) (old new : Place) → byte_string old.rest ≡ got a new.rest → Nears old new
byte_string_nears a old new e =
    record { less = less_behind byte_string _ word_byte_string.sound old.rest a new.rest e; eases = byte_string_eases old.rest a new.rest e }

pub char_nears : (c : ℕ) (old new : Place) → char old.rest ≡ got c new.rest → Nears old new
char_nears c old new e = record { less = less_behind char _ word_char.sound old.rest c new.rest e; eases = char_eases old.rest c new.rest e }

pub any_integer_nears : (n : Numeral) (old new : Place) → any_integer old.rest ≡ got n new.rest → Nears old new
any_integer_nears n old new e =
    record { less = less_behind any_integer _ word_any_integer.sound old.rest n new.rest e; eases = any_integer_eases old.rest n new.rest e }

pub number_or_range_nears : (i : Interval) (old new : Place) → number_or_range old.rest ≡ got i new.rest → Nears old new
number_or_range_nears i old new e =
    record { less = less_behind number_or_range _ word_number_or_range.sound old.rest i new.rest e; eases = number_or_range_eases old.rest i new.rest e }

-- a fixed word in which no gap begins
pub front_nears : (front : Text) (old new : Place) → Every (λ c. not (starts_gap c)) front → is_at 114 (front ++ new.rest) ≡ false
    → old.rest ≡ front ++ new.rest → Nears old new
front_nears front old new clear plain e = record {
  less = size_end front new.rest old.rest e;
  eases = front_eases front old.rest new.rest clear (ap (is_at 114) e ∙ plain) e;
}

pub true_nears : (old new : Place) → old.rest ≡ codes "true" ++ new.rest → Nears old new
true_nears old new e = front_nears (codes "true") old new (refl, (refl, (refl, (refl, tt)))) refl e

pub false_nears : (old new : Place) → old.rest ≡ codes "false" ++ new.rest → Nears old new
false_nears old new e = front_nears (codes "false") old new (refl, (refl, (refl, (refl, (refl, tt))))) refl e

pub none_nears : (old new : Place) → old.rest ≡ codes "None" ++ new.rest → Nears old new
none_nears old new e = front_nears (codes "None") old new (refl, (refl, (refl, (refl, tt)))) refl e

pub some_nears : (old new : Place) → old.rest ≡ codes "Some" ++ new.rest → Nears old new
some_nears old new e = front_nears (codes "Some") old new (refl, (refl, (refl, (refl, tt)))) refl e

pub unit_nears : (old new : Place) → old.rest ≡ codes "()" ++ new.rest → Nears old new
unit_nears old new e = front_nears (codes "()") old new (refl, (refl, tt)) refl e

-- what follows `Some`, where that stands
pub some_front : (s : Text) → stands (codes "Some") s ≡ true → s ≡ codes "Some" ++ drop 4 s
some_front s e = begins-drop (codes "Some") s (and_parts (begins_with (codes "Some") s) _ e).0

-- ---- marks

no_run : (c : ℕ) → is_other c ≡ false → starts_run c ≡ false
no_run c e = go (starts_run c) refl
  where
    go : (b : Bool) → starts_run c ≡ b → b ≡ false
    go true h = absurd (let z : true ≡ false = sym (run_other c h) ∙ e in cc)
    go false h = refl

no_look : (c : ℕ) → starts_run c ≡ false → is_hash c ≡ false → in_look c ≡ false
no_look c e f = rw (e, f) refl

-- a mark that stands between values: no look goes over it, and it begins neither a gap nor a raw identifier
pub record IsMark (c : ℕ) : Type 0 where
  pub not_looked : in_look c ≡ false
  pub not_gap : starts_gap c ≡ false
  pub not_raw : (c == 114) ≡ false

-- a bracket
bracket : (c : ℕ) → is_other c ≡ false → is_hash c ≡ false → starts_gap c ≡ false → (c == 114) ≡ false → IsMark c
bracket c e f g h = record { not_looked = no_look c (no_run c e) f; not_gap = g; not_raw = h }

pub mark_left_parenthesis : IsMark 40
mark_left_parenthesis = bracket 40 refl refl refl refl

pub mark_right_parenthesis : IsMark 41
mark_right_parenthesis = bracket 41 refl refl refl refl

pub mark_left_bracket : IsMark 91
mark_left_bracket = bracket 91 refl refl refl refl

pub mark_right_bracket : IsMark 93
mark_right_bracket = bracket 93 refl refl refl refl

pub mark_left_brace : IsMark 123
mark_left_brace = bracket 123 refl refl refl refl

pub mark_right_brace : IsMark 125
mark_right_brace = bracket 125 refl refl refl refl

pub mark_comma : IsMark 44
mark_comma = record { not_looked = no_look 44 starts_clear.stop.0 refl; not_gap = refl; not_raw = refl }

pub mark_colon : IsMark 58
mark_colon = record { not_looked = no_look 58 starts_clear.stop.1 refl; not_gap = refl; not_raw = refl }

whole : (c : ℕ) (u : Text) → in_look c ≡ false → past_look (c ∷ u) ≡ past_words (c ∷ u)
unfolding past_look
whole c u e = ap (λ b. past_words (cond b (after_run in_look u) (c ∷ u))) e

-- at a mark all stands beyond the words
at_mark : (c : ℕ) (u : Text) → IsMark c → beyond (c ∷ u) ≡ c ∷ u
at_mark c u m = beyond_plain (c ∷ u) (plain_first c u m.not_raw) ∙ whole c u m.not_looked ∙ word_stays c u m.not_gap

past_of_mark : (c : ℕ) (u : Text) → IsMark c → bytes_in u ≤ bytes_in (beyond (c ∷ u))
past_of_mark c u m = omega (arith, ap bytes_in (at_mark c u m), size_one c u)

pub mark_nears : (c : ℕ) (old new : Place) → IsMark c → old.rest ≡ c ∷ new.rest → Nears old new
mark_nears c old new m e = record {
  less = omega (arith, size_one c new.rest, ap bytes_in e);
  eases = omega (arith, mark_eases c new.rest m.not_gap m.not_raw, ap (λ s. bytes_in (beyond s)) e);
}

-- over what stands at a mark behind a gap
behind_gap : (c : ℕ) (old new : Place) → IsMark c → skip old.rest ≡ c ∷ new.rest → Nears old new
behind_gap c old new m e = record {
  less = omega (arith, size_one c new.rest, ap bytes_in e, size_skip old.rest);
  eases = omega (arith, mark_eases c new.rest m.not_gap m.not_raw, ap (λ s. bytes_in (beyond s)) e, gap_eases old.rest);
}

pub mark_opens : (c : ℕ) (old new : Place) → IsMark c → old.rest ≡ c ∷ new.rest → Opens old new
mark_opens c old new m e = omega (arith, past_of_mark c new.rest m, ap (λ s. bytes_in (beyond s)) e)

-- ---- marks and the gaps behind them

gap_and_rest : (u g t : Text) → gap_of u ≡ g → skip u ≡ t → bytes_in g + bytes_in t ≡ bytes_in u
gap_and_rest u g t e f = omega (arith, ap bytes_in (cut u).split, size_append (gap_of u) (skip u), ap bytes_in e, ap bytes_in f)

pub gap_splits : (old new : Place) → new.gap ≡ gap_of old.rest → new.rest ≡ skip old.rest → bytes_in new.gap + bytes_in new.rest ≡ bytes_in old.rest
gap_splits old new e f = gap_and_rest old.rest new.gap new.rest (sym e) (sym f)

-- from before a gap, over it and a mark, and over the gap behind that
behind_mark_and_gap : (c : ℕ) (old new : Place) (s u : Text) → IsMark c → bytes_in s ≤ bytes_in old.rest → bytes_in (beyond s) ≤ bytes_in (beyond old.rest)
    → s ≡ c ∷ u → gap_of u ≡ new.gap → skip u ≡ new.rest → Enters old new
behind_mark_and_gap c old new s u m less eases e f h = record {
  with_gap = omega (arith, gap_and_rest u new.gap new.rest f h, size_one c u, ap bytes_in e, less);
  past = omega (arith, gap_and_rest u new.gap new.rest f h, past_of_mark c u m, ap (λ s. bytes_in (beyond s)) e, eases);
}

pub mark_enters : (c : ℕ) (old mid new : Place) → IsMark c → old.rest ≡ c ∷ mid.rest → new.gap ≡ gap_of mid.rest → new.rest ≡ skip mid.rest → Enters old new
mark_enters c old mid new m e f h = behind_mark_and_gap c old new old.rest mid.rest m (omega arith) (omega arith) e (sym f) (sym h)

pub record Marked (c : ℕ) (s g t : Text) : Type 0 where
  pub more : Text
  pub is : s ≡ c ∷ more
  pub gap : gap_of more ≡ g
  pub rest : skip more ≡ t

pub marked_at : (c : ℕ) (s g t : Text) → past_mark c s ≡ Some (g, t) → Marked c s g t
marked_at c [] g t e = absurd (cc)
marked_at c (d ∷ u) g t e = go (d == c) refl e
  where
    go : (b : Bool) → (d == c) ≡ b → cond {A = Option (Text × Text)} b (unless_slash u (Some (gap_of u, skip u))) None ≡ Some (g, t) → Marked c (d ∷ u) g t
    go true h k =
        let same = same_Some (gap_of u, skip u) (g, t) (unless_some u (Some (gap_of u, skip u)) (g, t) k).1 in
        record { more = u; is = ap (λ z. z ∷ u) (eqb-true d c h); gap = ap (λ (z : Text × Text). z.0) same; rest = ap (λ (z : Text × Text). z.1) same }
    go false h k = absurd (cc)

pub past_mark_enters : (c : ℕ) (old new : Place) → IsMark c → past_mark c old.rest ≡ Some (new.gap, new.rest) → Enters old new
past_mark_enters c old new m e = let z = marked_at c old.rest new.gap new.rest e in
    behind_mark_and_gap c old new old.rest z.more m (omega arith) (omega arith) z.is z.gap z.rest

pub past_colon_enters : (old new : Place) → past_colon old.rest ≡ Some (new.gap, new.rest) → Enters old new
past_colon_enters old new e =
    let z = marked_at 58 (skip old.rest) new.gap new.rest (unless_some old.rest (past_mark 58 (skip old.rest)) (new.gap, new.rest) e).1 in
    behind_mark_and_gap 58 old new (skip old.rest) z.more mark_colon (size_skip old.rest) (gap_eases old.rest) z.is z.gap z.rest

-- ---- commas

-- behind a comma and its gap, or here
pub record Commaed (s gap : Text) (passed : Bool) (g t : Text) : Type 0 where
  pub passes : passed ≡ true → Marked 44 s g t
  pub stays : passed ≡ false → (gap ≡ g) × (s ≡ t)

comma_at : (gap s : Text) (passed : Bool) (g t : Text) → at_comma gap s ≡ Some (passed, (g, t)) → Commaed s gap passed g t
comma_at gap [] passed g t e =
    let same = same_Some (false, (gap, [])) (passed, (g, t)) e in
    let was : false ≡ passed = ap (λ (z : Bool × (Text × Text)). z.0) same in
    record { passes = λ p. absurd (cc); stays = λ p. (ap (λ (z : Bool × (Text × Text)). z.1.0) same, ap (λ (z : Bool × (Text × Text)). z.1.1) same) }
comma_at gap (c ∷ u) passed g t e = go (c == 44) refl e
  where
    go : (b : Bool) → (c == 44) ≡ b → cond {A = Option (Bool × (Text × Text))} b (unless_slash {A = Bool × (Text × Text)} u (Some (true, (gap_of u, skip u))))
        (Some (false, (gap, c ∷ u))) ≡ Some (passed, (g, t)) → Commaed (c ∷ u) gap passed g t
    go true h k =
        let same = same_Some (true, (gap_of u, skip u)) (passed, (g, t)) (unless_some u (Some (true, (gap_of u, skip u))) (passed, (g, t)) k).1 in
        let was : true ≡ passed = ap (λ (z : Bool × (Text × Text)). z.0) same in
        record {
          passes = λ p. record {
            more = u;
            is = ap (λ z. z ∷ u) (eqb-true c 44 h);
            gap = ap (λ (z : Bool × (Text × Text)). z.1.0) same;
            rest = ap (λ (z : Bool × (Text × Text)). z.1.1) same;
          };
          stays = λ p. absurd (cc);
        }
    go false h k =
        let same = same_Some (false, (gap, c ∷ u)) (passed, (g, t)) k in
        let was : false ≡ passed = ap (λ (z : Bool × (Text × Text)). z.0) same in
        record { passes = λ p. absurd (cc); stays = λ p. (ap (λ (z : Bool × (Text × Text)). z.1.0) same, ap (λ (z : Bool × (Text × Text)). z.1.1) same) }

pub commaed : (s : Text) (passed : Bool) (g t : Text) → past_comma s ≡ Some (passed, (g, t)) → Commaed (skip s) (gap_of s) passed g t
commaed s passed g t e = comma_at (gap_of s) (skip s) passed g t (unless_some s (at_comma (gap_of s) (skip s)) (passed, (g, t)) e).1

-- where a comma is passed
pub past_comma_enters : (old new : Place) → past_comma old.rest ≡ Some (true, (new.gap, new.rest)) → Enters old new
past_comma_enters old new e =
    let z = (commaed old.rest true new.gap new.rest e).passes refl in
    behind_mark_and_gap 44 old new (skip old.rest) z.more mark_comma (size_skip old.rest) (gap_eases old.rest) z.is z.gap z.rest

-- whether one is or not
pub past_comma_nears : (passed : Bool) (old new : Place) → past_comma old.rest ≡ Some (passed, (new.gap, new.rest)) → Nears old new
past_comma_nears true old new e = enters_nears old new (past_comma_enters old new e)
past_comma_nears false old new e = gap_nears old new (sym ((commaed old.rest false new.gap new.rest e).stays refl).1)

-- ---- a comma, or the closing character

-- at the closing character no look goes over anything
close_enters : (close : ℕ) (old new : Place) (u : Text) → IsMark close → skip old.rest ≡ close ∷ u → gap_of old.rest ≡ new.gap → skip old.rest ≡ new.rest
    → Enters old new
close_enters close old new u m e f h = record {
  with_gap = omega (arith, gap_and_rest old.rest new.gap new.rest f h);
  past = omega (arith, ap bytes_in (sym h ∙ e), ap bytes_in (at_mark close u m), ap (λ s. bytes_in (beyond s)) e, gap_eases old.rest);
}

pub item_cases : (close : ℕ) (gap s g t : Text) → at_item close gap s ≡ Some (g, t) → Marked 44 s g t ⊎ ((u : Text) × (s ≡ close ∷ u) × (gap ≡ g) × (s ≡ t))
item_cases close gap [] g t e = absurd (cc)
item_cases close gap (c ∷ u) g t e = go (c == 44) refl (c == close) refl e
  where
    go : (a : Bool) → (c == 44) ≡ a → (b : Bool) → (c == close) ≡ b
        → cond {A = Option (Text × Text)} a (unless_slash u (Some (gap_of u, skip u))) (cond b (Some (gap, c ∷ u)) None) ≡ Some (g, t)
        → Marked 44 (c ∷ u) g t ⊎ ((v : Text) × (c ∷ u ≡ close ∷ v) × (gap ≡ g) × (c ∷ u ≡ t))
    go true h b p k =
        let same = same_Some (gap_of u, skip u) (g, t) (unless_some u (Some (gap_of u, skip u)) (g, t) k).1 in
        inl (record { more = u; is = ap (λ z. z ∷ u) (eqb-true c 44 h); gap = ap (λ (z : Text × Text). z.0) same; rest = ap (λ (z : Text × Text). z.1) same })
    go false h true p k =
        let same = same_Some (gap, c ∷ u) (g, t) k in
        inr (u, ap (λ z. z ∷ u) (eqb-true c close p), ap (λ (z : Text × Text). z.0) same, ap (λ (z : Text × Text). z.1) same)
    go false h false p k = absurd (cc)

-- to before the next item, or to the closing character, where nothing is left to look at
pub past_item_enters : (close : ℕ) (old new : Place) → IsMark close → past_item close old.rest ≡ Some (new.gap, new.rest) → Enters old new
past_item_enters close old new m e =
    let led = (unless_some old.rest (at_item close (gap_of old.rest) (skip old.rest)) (new.gap, new.rest) (sym (item_is close old.rest) ∙ e)).1 in
    elim (item_cases close (gap_of old.rest) (skip old.rest) new.gap new.rest led) [
      | inl z ↦ behind_mark_and_gap 44 old new (skip old.rest) z.more mark_comma (size_skip old.rest) (gap_eases old.rest) z.is z.gap z.rest
      | inr z ↦ close_enters close old new z.0 m z.1 z.2 z.3
    ]

-- ---- the content of `Some`

-- behind the word, a gap and the parenthesis
pub some_opens : (old inner : Place) → stands (codes "Some") old.rest ≡ true → skip (drop 4 old.rest) ≡ 40 ∷ inner.rest → Opens old inner
some_opens old inner e f =
    let word : Place =
    record { text = old.text; rest = drop 4 old.rest; token_start = old.token_start; gap = old.gap; counted = old.counted; turns = old.turns } in
    let near = some_nears old word (some_front old.rest e) in
    omega (arith, past_of_mark 40 inner.rest mark_left_parenthesis, ap (λ s. bytes_in (beyond s)) f, gap_eases word.rest, near.eases)

-- and behind the gap that follows
pub some_enters : (old inner new : Place) → stands (codes "Some") old.rest ≡ true → skip (drop 4 old.rest) ≡ 40 ∷ inner.rest → new.gap ≡ gap_of inner.rest
    → new.rest ≡ skip inner.rest → Enters old new
some_enters old inner new e f g h =
    let word : Place =
    record { text = old.text; rest = drop 4 old.rest; token_start = old.token_start; gap = old.gap; counted = old.counted; turns = old.turns } in
    let near = some_nears old word (some_front old.rest e) in
    behind_mark_and_gap 40 old new (skip word.rest) inner.rest mark_left_parenthesis (omega (arith, size_skip word.rest, near.less))
    (omega (arith, gap_eases word.rest, near.eases)) f (sym g) (sym h)

-- ---- the end of what stands in brackets

pub closed_at : (c : ℕ) (s t : Text) → behind_mark c s ≡ Some t → s ≡ c ∷ t
closed_at c [] t e = absurd (cc)
closed_at c (d ∷ u) t e = go (d == c) refl e
  where
    go : (b : Bool) → (d == c) ≡ b → cond {A = Option Text} b (Some u) None ≡ Some t → d ∷ u ≡ c ∷ t
    go true h k = ap (λ z. z ∷ u) (eqb-true d c h) ∙ ap (λ z. c ∷ z) (same_Some u t k)
    go false h k = absurd (cc)

pub past_close_nears : (close : ℕ) (old new : Place) → IsMark close → past_close close old.rest ≡ Some new.rest → Nears old new
past_close_nears close old new m e =
    behind_gap close old new m (closed_at close (skip old.rest) new.rest (unless_some old.rest (behind_mark close (skip old.rest)) new.rest e).1)

-- over the comma that stands there, if one does
pub behind_comma_nears : (old new : Place) → behind_comma old.rest ≡ new.rest → Nears old new
behind_comma_nears old new e = record { less = less old.rest new.rest e; eases = eases old.rest new.rest e }
  where
    less : (s t : Text) → behind_comma s ≡ t → bytes_in t ≤ bytes_in s
    less [] t f = omega (arith, ap bytes_in f)
    less (c ∷ u) t f = go (c == 44) f
      where
        go : (b : Bool) → cond b u (c ∷ u) ≡ t → bytes_in t ≤ bytes_in (c ∷ u)
        go true k = omega (arith, ap bytes_in k, size_one c u)
        go false k = omega (arith, ap bytes_in k)

    eases : (s t : Text) → behind_comma s ≡ t → bytes_in (beyond t) ≤ bytes_in (beyond s)
    eases [] t f = omega (arith, ap (λ s. bytes_in (beyond s)) f)
    eases (c ∷ u) t f = go (c == 44) refl f
      where
        go : (b : Bool) → (c == 44) ≡ b → cond b u (c ∷ u) ≡ t → bytes_in (beyond t) ≤ bytes_in (beyond (c ∷ u))
        go true h k = omega (arith, ap (λ s. bytes_in (beyond s)) k, mark_eases 44 u refl refl, ap (λ z. bytes_in (beyond (z ∷ u))) (eqb-true c 44 h))
        go false h k = omega (arith, ap (λ s. bytes_in (beyond s)) k)

pub past_last_nears : (old new : Place) → past_last_comma old.rest ≡ Some new.rest → Nears old new
past_last_nears old new e =
    let there : Place =
    record { text = old.text; rest = skip old.rest; token_start = old.token_start; gap = old.gap; counted = old.counted; turns = old.turns } in
    let led = same_Some (behind_comma (skip old.rest)) new.rest (unless_some old.rest (Some (behind_comma (skip old.rest))) new.rest e).1 in
    nears_on old there new (gap_nears old there refl) (behind_comma_nears there new led)

-- ---- of calls, whatever they answer

module _ {A : Type 0} (old : Place) where
  pub gap_goes : (r : Result A Error) (new : Place) → OnOk r (new.rest ≡ skip old.rest) → OnOk r (Nears old new)
  gap_goes (Ok a) new h = gap_nears old new h
  gap_goes (Err e) new h = tt

  pub item_goes : (close : ℕ) (r : Result A Error) (new : Place) → IsMark close → GoesTo (past_item close old.rest) r (new.gap, new.rest)
      → OnOk r (Enters old new)
  item_goes close (Ok a) new m h = past_item_enters close old new m h
  item_goes close (Err e) new m h = tt

  pub last_goes : (r : Result A Error) (new : Place) → GoesTo (past_last_comma old.rest) r new.rest → OnOk r (Nears old new)
  last_goes (Ok a) new h = past_last_nears old new h
  last_goes (Err e) new h = tt

  -- where something is entered, no more is left
  pub enters_nears_so : (r : Result A Error) (new : Place) → OnOk r (Enters old new) → OnOk r (Nears old new)
  enters_nears_so (Ok a) new h = enters_nears old new h
  enters_nears_so (Err e) new h = tt

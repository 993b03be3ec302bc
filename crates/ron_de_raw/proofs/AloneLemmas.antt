-- A text that is read by itself, step by step.
use Rattle.std.proofs.Common.{◌≡◌, ◌-◌, Bool, true, false, cond, [], ◌∷◌, ◌++◌, length, take, take_at, length-append, arith, Some, None, Result, Ok, Err, refl}
use Rattle.std.proofs.Common.{sym, ap, subst, ◌∙◌, inl, inr, ◌⊎◌}
use Rattle.std.proofs.lemmas.Bool.{eqb-true}
use Rattle.std.proofs.lemmas.List.{append_cancel_right}
use Rattle.std.proofs.lemmas.Slice.Eq.{bytes_eq-Decides}
use Rattle.ron_spec_words.specs.Characters.{Text}
use Rattle.ron_spec_words.specs.Runs.{is_at, same_text}
use Rattle.ron_spec_words.specs.Gap.{Gap, gap_of, skip}
use Rattle.ron_spec_words.specs.Reader.{Fault, deep, bad, Got, got, failed}
use Rattle.ron_spec_words.proofs.Gaps.{cut, skip_to_end}
use Rattle.ron_spec_words.proofs.Turns.{after_slash, after_other}
use Rattle.ron_lex_text.specs.Stretch.{is_ended}
use Rattle.ron_value.specs.Tree.{Tree}
use Rattle.ron_value.specs.View.{tree_of}
use Rattle.ron_value.specs.declared.value.Value.{Value}
use Rattle.ron_base.specs.declared.error.Error.{Error}
use Rattle.ron_base.specs.declared.error.Error.TheVariants.{OutOfMemory}
use Rattle.ron_base.specs.Class.{ErrorClass, memory, depth, other, class_of}
use Rattle.ron_spec_grammar.specs.Raw.{closed, raw_value, raw_valid, without_gaps}
use Rattle.ron_spec_grammar.proofs.Computing.{values}
use Rattle.ron_spec_grammar.specs.Values.Grammar.{read_any}
use Rattle.ron_de_steps.proofs.ErrorLemmas.{memory_is}
use Rattle.ron_de_steps.specs.Reads.{IsFaultOf, Reads}
use Rattle.std.specs.Result.{is_err, OnOk, IfOk, IfErr, MatchResult}
use Rattle.std.specs.Option.{is_some}
use Rattle.ron_base.specs.declared.error.Error.TheVariants.{TrailingCharacters}
use Rattle.ron_base.specs.Extensions.{no_extensions}
use Rattle.ron_spec_grammar.specs.Rule.{Extensions}
use Rattle.ron_spec_grammar.proofs.Raw.Moves.{gap_any}
use Rattle.ron_spec_grammar.proofs.Raw.Bodies.{valid_value, value_valid, without_value}
use Rattle.ron_lex.specs.Place.{Place}
use Rattle.ron_de_steps.specs.Conditions.{Conditions}
use Rattle.ron_de_steps.specs.Errors.{IsOfReading}
use Rattle.ron_de_untyped.specs.Values.{ReadsAny}
use Rattle.ron_de_raw.specs.Raw.{RefusesRaw, IsWithoutGaps}
use Rattle.ron_de_raw.specs.Reading.{ReadsAlone, PassesValue}

-- what reading answers, where no slash stands behind the gap
answer_at : (s : Text) → is_at 47 (skip s) ≡ false → raw_value s ≡ closed (read_any false 128 false (gap_of s) (skip s))
unfolding raw_value
answer_at s e = ap closed (after_other (read_any false 128 false) s e)

-- a slash that begins no comment
pub slash_alone : (s : Text) → is_at 47 (skip s) ≡ true → raw_valid s ≡ false
unfolding raw_valid raw_value
slash_alone s e = ap (λ o. is_some (closed o)) (after_slash (read_any false 128 false) s e)

module _ (s gap here : Text) (e : is_at 47 (skip s) ≡ false) (g : gap ≡ gap_of s) (h : here ≡ skip s) where
  is_answer : raw_value s ≡ closed (read_any false 128 false gap here)
  is_answer = rw (g, h) (answer_at s e)

  pub fault_alone : (f : Fault) → read_any false 128 false gap here ≡ failed f → raw_valid s ≡ false
  unfolding raw_valid
  fault_alone f k = ap is_some (is_answer ∙ ap closed k)

  pub read_alone : (v : Tree) (rest : Text) → read_any false 128 false gap here ≡ got v rest → raw_valid s ≡ same_text (skip (rest ++ 44 ∷ [])) (44 ∷ [])
  unfolding raw_valid
  read_alone v rest k = ap is_some (is_answer ∙ ap closed k) ∙ go (same_text (skip (rest ++ 44 ∷ [])) (44 ∷ []))
    where
      go : (b : Bool) → is_some (cond b (Some v) None) ≡ b
      go true = refl
      go false = refl

-- a refusal by its class: want of memory, or no text that is valid
pub refused_alone : (text : Text) (e : Error) (answer : Got Tree) → ((f : Fault) → answer ≡ failed f → raw_valid text ≡ false) → IsFaultOf (class_of e) answer
    → RefusesRaw text e
refused_alone text e answer h g = go (class_of e) refl g
  where
    go : (k : ErrorClass) → class_of e ≡ k → IsFaultOf k answer → RefusesRaw text e
    go memory c f = inl (memory_is e c)
    go depth c f = inr (h deep f)
    go other c f = inr (h bad f)

-- where the value is there, only memory was wanted
pub value_or_memory : (e : Error) (answer : Got Tree) (v : Tree) (rest : Text) → answer ≡ got v rest → IsFaultOf (class_of e) answer → e ≡ OutOfMemory
value_or_memory e answer v rest h g = go (class_of e) refl g
  where
    go : (k : ErrorClass) → class_of e ≡ k → IsFaultOf k answer → e ≡ OutOfMemory
    go memory c f = memory_is e c
    go depth c f = cc
    go other c f = cc

-- no value begins with a hash
hash_word : (gap s : Text) → read_any false 128 false gap (35 ∷ s) ≡ failed bad
unfolding values
hash_word gap s = refl

pub attribute_alone : (s : Text) → is_at 35 (skip s) ≡ true → raw_valid s ≡ false
attribute_alone s e = go (skip s) refl e
  where
    go : (t : Text) → skip s ≡ t → is_at 35 t ≡ true → raw_valid s ≡ false
    go [] h k = absurd (cc)
    go (c ∷ t) h k =
        let same : c ≡ 35 = eqb-true c 35 k in
        let here : skip s ≡ 35 ∷ t = h ∙ ap (λ d. d ∷ t) same in
        fault_alone s (gap_of s) (35 ∷ t) (ap (is_at 47) here) refl (sym here) bad (hash_word (gap_of s) t)

-- ---- the end of the text

closed_ends : (s : Text) → skip (s ++ 44 ∷ []) ≡ 44 ∷ [] → skip s ≡ []
closed_ends s e =
    let k = cut (s ++ 44 ∷ []) in
    let same : s ≡ gap_of (s ++ 44 ∷ []) = append_cancel_right s (gap_of (s ++ 44 ∷ [])) (44 ∷ []) (k.split ∙ ap (λ u. gap_of (s ++ 44 ∷ []) ++ u) e) in
    skip_to_end s (subst (λ g. Gap g []) (sym same) (gap_any (subst (Gap (gap_of (s ++ 44 ∷ []))) e k.is_gap.is_gap) (λ z. cc) []))

-- a gap that leaves no line comment open, with nothing behind it
pub closes_at_end : (s rest : Text) → skip (s ++ 44 ∷ []) ≡ rest ++ 44 ∷ [] → is_ended rest ≡ true → skip s ≡ []
closes_at_end s [] e h = closed_ends s e
closes_at_end s (c ∷ rest) e h = absurd (cc)

-- a slash that begins no comment
pub slash_no_end : (s : Text) → is_at 47 (skip s) ≡ true → same_text (skip (s ++ 44 ∷ [])) (44 ∷ []) ≡ false
slash_no_end s h = go (same_text (skip (s ++ 44 ∷ [])) (44 ∷ [])) refl
  where
    go : (b : Bool) → same_text (skip (s ++ 44 ∷ [])) (44 ∷ []) ≡ b → b ≡ false
    go true e = absurd (let z : false ≡ true = sym (ap (is_at 47) (closed_ends s ((bytes_eq-Decides (skip (s ++ 44 ∷ [])) (44 ∷ [])).0 e))) ∙ h in cc)
    go false e = refl

-- ---- what is left without the gaps

-- a valid text has a value, and a stretch that it is
pub record Stands (s : Text) : Type 0 where
  pub value : Tree
  pub rest : Text
  pub no_slash : is_at 47 (skip s) ≡ false
  pub answer : read_any false 128 false (gap_of s) (skip s) ≡ got value rest

stands_after : (s : Text) → (b : Bool) → is_at 47 (skip s) ≡ b → (o : Got Tree) → read_any false 128 false (gap_of s) (skip s) ≡ o → raw_valid s ≡ true
    → Stands s
stands_after s true e o h v = absurd (let z = slash_alone s e in cc)
stands_after s false e (failed f) h v = absurd (let z = fault_alone s (gap_of s) (skip s) e refl refl f h in cc)
stands_after s false e (got t rest) h v = record { value = t; rest = rest; no_slash = e; answer = h }

pub stands_there : (s : Text) → raw_valid s ≡ true → Stands s
stands_there s v = stands_after s (is_at 47 (skip s)) refl (read_any false 128 false (gap_of s) (skip s)) refl v

pub core_is : (s core rest : Text) (v : Tree) → read_any false 128 false (gap_of s) (skip s) ≡ got v rest → skip s ≡ core ++ rest → core ≡ without_gaps s
unfolding without_gaps
core_is s core rest v h e = rw h (let k : take (length (skip s) - length rest) (skip s) ≡ core =
    ap (λ t. take (length t - length rest) t) e ∙ take_at core rest (length (core ++ rest) - length rest) (omega (arith, length-append core rest)) in sym k)

-- ---- by the code's calls

-- within the limit of raw texts
abbrev within_raw_limit : Extensions → Conditions
within_raw_limit set = record { extensions = set; limit = Some 128 }

-- under no extensions
pub alone_in : (x : Conditions) (set : Extensions) (place : Place) (result : Result Value Error) (rest : Text)
    → x ≡ record { extensions = set; limit = Some 128 } → set ≡ no_extensions → ReadsAny x false place result rest
    → Reads tree_of result (read_any false 128 false place.gap place.rest) rest
alone_in x set place result rest e f h = subst (λ (c : Conditions). ReadsAny c false place result rest) (e ∙ ap within_raw_limit f) h 128 refl

-- a refusal where a slash decides
pub by_slash : {A E : Type 0} (r : Result A E) (b : Bool) → is_err r ≡ true → MatchResult r (λ _. b ≡ false) (λ _. b ≡ true) → b ≡ true
by_slash (Ok a) b e h = absurd (cc)
by_slash (Err x) b e h = h

-- the end of what stands behind the value decides
pub closes_alone : (text : Text) (b : Bool) (r : Result (Unit {0}) Error) → raw_valid text ≡ b → MatchResult r (λ _. b ≡ true) (λ _. b ≡ false)
    → IfErr r (λ e. (e ≡ TrailingCharacters) ⊎ IsOfReading e) → ReadsAlone text r
closes_alone text b (Ok u) e h f = e ∙ h
closes_alone text b (Err x) e h f = (inr (e ∙ h), f)

-- without its gaps, a valid text is one
pub without_is : (s : Text) → raw_valid s ≡ true → IsWithoutGaps s (without_gaps s)
without_is s v = let k = valid_value s v in record { value = k.0; is = k.1; bare = without_value s k.0 k.1 }

pub without_valid : (s : Text) → raw_valid s ≡ true → raw_valid (without_gaps s) ≡ true
without_valid s v = let k = without_is s v in value_valid (without_gaps s) k.value k.bare.value

pub ok_of : {A E P : Type 0} (r : Result A E) → is_err r ≡ false → OnOk r P → P
ok_of (Ok a) e p = p
ok_of (Err x) e p = absurd (cc)

-- a valid text, from behind its first gap
module _ (s gap here : Text) (g : gap ≡ gap_of s) (h : here ≡ skip s) (valid : raw_valid s ≡ true) where
  value_there : read_any false 128 false gap here ≡ got (stands_there s valid).value (stands_there s valid).rest
  value_there = rw (g, h) (stands_there s valid).answer

  only_memory : (e : Error) → IsFaultOf (class_of e) (read_any false 128 false gap here) → e ≡ OutOfMemory
  only_memory e f = value_or_memory e _ _ _ value_there f

  core_there : (t : Tree) (core rest : Text) → read_any false 128 false gap here ≡ got t rest → here ≡ core ++ rest → core ≡ without_gaps s
  core_there t core rest k c = core_is s core rest t (rw (sym g, sym h) k) (sym h ∙ c)

-- what is answered of its value
pub core_or_memory : {A : Type 0} (text_of : A → Text) (s : Text) (place : Place) (r : Result A Error) (rest : Text) → place.gap ≡ gap_of s
    → place.rest ≡ skip s → raw_valid s ≡ true → PassesValue place r rest → IfOk r (λ core. place.rest ≡ text_of core ++ rest)
    → MatchResult r (λ core. text_of core ≡ without_gaps s) (λ e. e ≡ OutOfMemory)
core_or_memory text_of s place (Ok core) rest g h valid v is = core_there s place.gap place.rest g h valid v.0 (text_of core) rest v.1 is
core_or_memory text_of s place (Err e) rest g h valid f is = only_memory s place.gap place.rest g h valid e f

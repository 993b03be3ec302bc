-- What the searches of a string go over: no more than twice the bytes before what is left.
use Rattle.std.specs.Prelude.{◌==◌}
use Rattle.std.proofs.Common.{◌≡◌, ℕ, ◌≤◌, ◌*◌, true, false, not, cond, List, chars, Bor, Result, Ok, Err, IfOk, [], ◌∷◌, ◌++◌, refl, sym, ap, ◌∙◌, arith}
use Rattle.ron_spec_words.specs.Characters.{Text}
use Rattle.ron_spec_words.specs.Runs.{is_at, after_run}
use Rattle.ron_spec_words.specs.Beyond.{bytes_in}
use Rattle.ron_spec_words.proofs.Sizes.{size_end, size_one, size_run}
use Rattle.ron_lex_text.specs.declared.text.Class.TheVariants.{Unquoted}
use Rattle.ron_lex_text.specs.Stretch.{IsSuffix, in_class}
use Rattle.ron_lex.specs.Quoted.{ends_plainly}
use Rattle.ron_lex.specs.Turns.{Covers, CoversAtMost, passed}
use Rattle.ron_lex.specs.Searched.{searched, searched_string, searched_bytes, Gains}
use Rattle.ron_lex.proofs.StringLemmas.{plain, no_quote_behind}

-- the first quote stands no further than any other
first_quote : (front rest : Text) → bytes_in (34 ∷ rest) ≤ bytes_in (after_run (in_class Unquoted) (front ++ 34 ∷ rest))
first_quote [] rest = omega arith
first_quote (c ∷ front) rest =
    elim (c == 34) as (λ b. bytes_in (34 ∷ rest) ≤ bytes_in (cond (not b) (after_run (in_class Unquoted) (front ++ 34 ∷ rest)) (c ∷ (front ++ 34 ∷ rest)))) [
      | true ↦ size_end (c ∷ front) (34 ∷ rest) (c ∷ (front ++ 34 ∷ rest)) refl
      | false ↦ first_quote front rest
    ]

-- a search up to the closing quote, and once more
pub slice_covered : (text end rest : Text) (old mid new : ℕ) → end ≡ after_run plain text → end ≡ 34 ∷ rest → Covers old text end mid → Covers mid text end new
    → CoversAtMost 2 old text rest new
slice_covered text end rest old mid new run closes h k =
    omega (arith, h.most, k.most, ap bytes_in run, size_run plain text, ap bytes_in closes, size_one 34 rest)

-- one up to the first backslash, one on to the first quote, and what stands from the backslash to the closing quote
pub escaped_covered : (text end quote rest : Text) (a b c d : ℕ) → end ≡ after_run plain text → quote ≡ after_run (in_class Unquoted) end
    → IsSuffix (34 ∷ rest) text → Covers a text end b → Covers b end quote c → CoversAtMost 1 c end rest d → CoversAtMost 2 a text rest d
escaped_covered text end quote rest a b c d run first closed f g h =
    let same : quote ≡ after_run (in_class Unquoted) (closed.front ++ 34 ∷ rest) =
    first ∙ sym (no_quote_behind text end run) ∙ ap (after_run (in_class Unquoted)) closed.is in
    omega (arith, f.most, g.most, h, ap bytes_in same, first_quote closed.front rest, size_one 34 rest, ap bytes_in run, size_run plain text)

-- one search behind another
pub gains_on : (text rest next : Text) (old mid new : ℕ) → Gains (passed text rest) old mid → Covers mid rest next new → Gains (passed text next) old new
gains_on text rest next old mid new h k = omega (arith, h, k.all)

-- at least, up to the closing quote
pub slice_gains : (text end rest : Text) (old mid new : ℕ) → end ≡ after_run plain text → end ≡ 34 ∷ rest → Covers old text end mid → Covers mid text end new
    → Gains (searched text rest) old new
slice_gains text end rest old mid new run closes h k =
    let plainly : ends_plainly text ≡ true = ap (is_at 34) (sym run ∙ closes) in
    rw plainly (omega (arith, h.all, k.all, ap bytes_in closes))

-- and once more from the first backslash to the first quote
pub escaped_gains : (text end quote rest : Text) (a b c d : ℕ) → end ≡ after_run plain text → is_at 34 end ≡ false → quote ≡ after_run (in_class Unquoted) end
    → Covers a text end b → Covers b end quote c → Gains (passed end (34 ∷ rest)) c d → Gains (searched text rest) a d
escaped_gains text end quote rest a b c d run opens first f g h =
    let quoted : quote ≡ after_run (in_class Unquoted) text = first ∙ sym (no_quote_behind text end run) in
    let escaped : ends_plainly text ≡ false = ap (is_at 34) (sym run) ∙ opens in
    rw escaped (omega (arith, f.all, g.all, h, ap bytes_in run, ap bytes_in quoted))

-- the same behind what stands before the content
pub string_gains : {V E : Type 0} (text content : Text) (old new : ℕ) (result : Result (V × Bor (List ℕ)) E) → text ≡ 34 ∷ content
    → IfOk result (λ p. Gains (searched content (chars p.1.now)) old new) → IfOk result (λ p. Gains (searched_string text (chars p.1.now)) old new)
string_gains text content old new (Ok p) e h = rw e h
string_gains text content old new (Err r) e h = tt

pub bytes_gains : {V E : Type 0} (text content : Text) (old new : ℕ) (result : Result (V × Bor (List ℕ)) E) → text ≡ 98 ∷ 34 ∷ content
    → IfOk result (λ p. Gains (searched content (chars p.1.now)) old new) → IfOk result (λ p. Gains (searched_bytes text (chars p.1.now)) old new)
bytes_gains text content old new (Ok p) e h = rw e h
bytes_gains text content old new (Err r) e h = tt

-- the same of what is gone over at most
pub covered_behind : {V E : Type 0} (front text content : Text) (old new : ℕ) (result : Result (V × Bor (List ℕ)) E) → text ≡ front ++ content
    → IfOk result (λ p. CoversAtMost 2 old content (chars p.1.now) new) → IfOk result (λ p. CoversAtMost 2 old text (chars p.1.now) new)
covered_behind front text content old new (Ok p) e h = omega (arith, h, size_end front content text e)
covered_behind front text content old new (Err r) e h = tt

-- a raw string, which counts once more for who keeps it
pub raw_gains : (text marked rest : Text) (old new : ℕ) → text ≡ 114 ∷ marked → Gains (2 * passed text rest) old new → Gains (searched_string text rest) old new
raw_gains text marked rest old new e h = rw e (rw e at h)

pub raw_bytes_gains : (text marked rest : Text) (old new : ℕ) → text ≡ 98 ∷ 114 ∷ marked → Gains (2 * passed text rest) old new
    → Gains (searched_bytes text rest) old new
raw_bytes_gains text marked rest old new e h = rw e (omega (arith, h, ap bytes_in e, size_end (98 ∷ []) (114 ∷ marked) (98 ∷ 114 ∷ marked) refl))

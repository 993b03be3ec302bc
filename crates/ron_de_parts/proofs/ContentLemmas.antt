-- What stands in a value and in its brackets, beside the steps of the code.
use Rattle.std.proofs.Common.{◌≡◌, ℕ, suc, ◌==◌, Bool, true, false, cond, List, [], ◌∷◌, length, Option, Some, None, Result, Ok, Err, refl, sym, ap, subst, ◌∙◌}
use Rattle.std.proofs.Common.{arith}
use Rattle.ron_spec_words.specs.Characters.{Text}
use Rattle.ron_spec_words.specs.Gap.{skip}
use Rattle.ron_spec_words.specs.Reader.{deep, bad, Got, got, failed, meant, mark, opt_comma, and_then}
use Rattle.ron_spec_words.specs.Runs.{is_at}
use Rattle.ron_spec_words.proofs.Turns.{after_slash, after_other}
use Rattle.ron_spec_grammar.specs.Data as plain
use Rattle.ron_spec_grammar.specs.Schema.{Shape}
use Rattle.ron_spec_grammar.specs.Rule.{Extensions}
use Rattle.ron_spec_grammar.specs.Reading.{read}
use Rattle.ron_spec_grammar.specs.Room.{enough}
use Rattle.ron_spec_grammar.specs.Turns.{read_below}
use Rattle.ron_spec_grammar.proofs.ContentTurns.{closed, below_here, below_deep}
use Rattle.ron_spec_grammar.proofs.BareTurns.{bracketed}
use Rattle.ron_base.specs.declared.error.Error.{Error}
use Rattle.ron_base.specs.Class.{ErrorClass, class_of}
use Rattle.ron_lex.specs.Place.{Place}
use Rattle.ron_de_steps.specs.Reads.{IsFaultOf, Reads}
use Rattle.ron_data.specs.declared.data.Data.{Data}
use Rattle.ron_data.specs.Datum.{data_view}
use Rattle.ron_de_parts.specs.Errors.{IsMemoryOr}
use Rattle.ron_de_steps.specs.Steps.{behind_mark, behind_comma, past_close}
use Rattle.ron_de_parts.specs.Steps.{past_end}
use Rattle.ron_de_parts.specs.Terms.{Terms, IsDeeper}
use Rattle.ron_de_parts.specs.Room.{IsRoom}
use Rattle.ron_de_parts.specs.Values.{ReadsValue}
use Rattle.ron_de_parts.proofs.RoomLemmas.{RoomBelow, room_below}
use Rattle.ron_de_steps.proofs.ErrorLemmas.{memory_or_more, is_fault, fault_of}

-- ---- a level deeper

-- what is said of the value, in each room that the limit leaves to it, is said of what is read below
pub below_said : (terms inner : Terms) → IsDeeper terms inner → (j : ℕ) (place : Place) (room : ℕ)
    → IsRoom terms.limit (suc (enough terms.schema false j (length place.rest))) room
    → (P : Got plain.Data → Type 0) → ((n : ℕ) → IsRoom inner.limit (enough inner.schema false j (length place.rest)) n
    → P (read inner.extensions inner.schema n false j place.gap place.rest)) → P (read_below terms.extensions terms.schema room j place.gap place.rest)
below_said terms inner d j place room r P g =
    let there : RoomBelow inner.limit (enough terms.schema false j (length place.rest)) room =
    room_below terms.limit inner.limit _ _ room d.2 r (omega arith) in
    let n = there.left in
    let h = g n (subst (λ (s : List Shape). IsRoom inner.limit (enough s false j (length place.rest)) n) (sym d.1) there.is_room) in
    let is : read_below terms.extensions terms.schema room j place.gap place.rest ≡ read terms.extensions terms.schema n false j place.gap place.rest =
    ap (λ k. read_below terms.extensions terms.schema k j place.gap place.rest) there.is ∙ below_here terms.extensions terms.schema n j place.gap place.rest in
    subst P (sym is) (subst (λ (s : List Shape). P (read terms.extensions s n false j place.gap place.rest)) d.1
    (subst (λ (x : Extensions). P (read x inner.schema n false j place.gap place.rest)) d.0 h))

pub reads_below : (terms inner : Terms) → IsDeeper terms inner → (j : ℕ) (place : Place) (room : ℕ)
    → IsRoom terms.limit (suc (enough terms.schema false j (length place.rest))) room
    → (result : Result Data Error) (rest : Text) → ReadsValue inner j place result rest
    → Reads data_view result (read_below terms.extensions terms.schema room j place.gap place.rest) rest
reads_below terms inner d j place room r (Ok v) rest h = below_said terms inner d j place room r (λ o. o ≡ got (data_view v) rest) h
reads_below terms inner d j place room r (Err e) rest h = below_said terms inner d j place room r (IsFaultOf (class_of e)) h

pub below_ended : (x : Extensions) (schema : List Shape) (room j : ℕ) (before s : Text) → room ≡ 0 → read_below x schema room j before s ≡ failed deep
below_ended x schema room j before s e = ap (λ k. read_below x schema k j before s) e ∙ below_deep x schema j before s

-- ---- behind content

-- the value, and what follows it, if there is a place
abbrev pub ends_at : plain.Data → Option Text → Got plain.Data
ends_at d None = failed bad
ends_at d (Some rest) = got d rest

pub perhaps_comma : (d : plain.Data) (s : Text) → opt_comma d s ≡ got d (behind_comma s)
perhaps_comma d [] = refl
perhaps_comma d (c ∷ s) = go (c == 44) refl
  where
    go : (b : Bool) → (c == 44) ≡ b → opt_comma d (c ∷ s) ≡ got d (behind_comma (c ∷ s))
    go true e = rw e refl
    go false e = rw e refl

pub bracket : (d : plain.Data) (s : Text) → mark 41 d s ≡ ends_at d (behind_mark 41 s)
bracket d [] = refl
bracket d (c ∷ s) = go (c == 41) refl
  where
    go : (b : Bool) → (c == 41) ≡ b → mark 41 d (c ∷ s) ≡ ends_at d (behind_mark 41 (c ∷ s))
    go true e = rw e refl
    go false e = rw e refl

-- the closing bracket behind what was read
pub bracketed_at : (d : plain.Data) (rest : Text)
    → and_then (got d rest) (λ d _. mark 41 d) ≡ ends_at d (cond (is_at 47 (skip rest)) None (behind_mark 41 (skip rest)))
bracketed_at d rest = go (is_at 47 (skip rest)) refl
  where
    go : (b : Bool) → is_at 47 (skip rest) ≡ b → and_then (got d rest) (λ d _. mark 41 d) ≡ ends_at d (cond b None (behind_mark 41 (skip rest)))
    go true e = after_slash (λ _. mark 41 d) rest e
    go false e = after_other (λ _. mark 41 d) rest e ∙ bracket d (skip rest)

-- where the bracket has to stand behind what was read
module _ (o whole : Got plain.Data) (d : plain.Data) (rest : Text) (w : whole ≡ bracketed o) (g : o ≡ got d rest) where
  pub bracket_missing : (e : Error) → IsMemoryOr (past_close 41 rest ≡ None) e → IsFaultOf (class_of e) whole
  bracket_missing e h = is_fault (class_of e) whole (memory_or_more e (λ n. w ∙ ap bracketed g ∙ bracketed_at d rest ∙ ap (ends_at d) n) h)

  pub bracket_there : (end : Text) → past_close 41 rest ≡ Some end → whole ≡ got d end
  bracket_there end e = w ∙ ap bracketed g ∙ bracketed_at d rest ∙ ap (ends_at d) e

pub closed_at : (d : plain.Data) (rest : Text) → closed (got d rest) ≡ ends_at d (past_end rest)
closed_at d rest = first (is_at 47 (skip rest)) refl
  where
    mid : Text
    mid = behind_comma (skip rest)

    first : (b : Bool) → is_at 47 (skip rest) ≡ b → closed (got d rest) ≡ ends_at d (cond b None (cond (is_at 47 (skip mid)) None (behind_mark 41 (skip mid))))
    first true e = ap (λ o. and_then o (λ d _. mark 41 d)) (after_slash (λ _. opt_comma d) rest e)
    first false e = ap (λ o. and_then o (λ d _. mark 41 d)) (after_other (λ _. opt_comma d) rest e ∙ perhaps_comma d (skip rest)) ∙ bracketed_at d mid

-- a fault of the content is that of the whole
pub closed_fault : (k : ErrorClass) (o whole : Got plain.Data) → whole ≡ closed o → IsFaultOf k o → IsFaultOf k whole
closed_fault k o whole w h = fault_of k o whole (λ fault e. w ∙ ap closed e) h

-- no end is found behind it
pub not_closed : (o whole : Got plain.Data) (d : plain.Data) (rest : Text) → whole ≡ closed o → o ≡ got d rest → (e : Error)
    → IsMemoryOr (past_end rest ≡ None) e → IsFaultOf (class_of e) whole
not_closed o whole d rest w g e h = is_fault (class_of e) whole (memory_or_more e (λ n. w ∙ ap closed g ∙ closed_at d rest ∙ ap (ends_at d) n) h)

pub closed_value : (o whole : Got plain.Data) (d : plain.Data) (rest end : Text) → whole ≡ closed o → o ≡ got d rest → past_end rest ≡ Some end
    → whole ≡ got d end
closed_value o whole d rest end w g e = w ∙ ap closed g ∙ closed_at d rest ∙ ap (ends_at d) e

-- ---- what is made of a value

pub made_of : (f : plain.Data → plain.Data) (result : Result Data Error) (answer whole : Got plain.Data) (rest : Text) → whole ≡ meant answer (λ d. Some (f d))
    → Reads data_view result answer rest → Reads (λ d. f (data_view d)) result whole rest
made_of f (Ok v) answer whole rest w h = w ∙ ap (λ o. meant o (λ d. Some (f d))) h
made_of f (Err e) answer whole rest w h = fault_of (class_of e) answer whole (λ fault k. w ∙ ap (λ o. meant o (λ d. Some (f d))) k) h

-- Reader functions, from a text to a value and what follows it, or to a fault. They are made as the languages are.
--
-- Two faults. The reader function tells only the limit's fault from all others. That is what is claimed of errors
-- beyond what clauses name, and it keeps the function small. Which of the two comes first depends on the order of
-- checks, so that order is the code's.
use Rattle.std.specs.Prelude.{ℕ, zero, suc, Bool, ◌==◌, nat_le, if◌then◌else◌, List, [], ◌∷◌, length, Option, Some, None}
use Rattle.ron_spec_words.specs.Characters.{Text, comma, slash}
use Rattle.ron_spec_words.specs.Runs.{begins, is_at, run_of, after_run}
use Rattle.ron_spec_words.specs.Gap.{skip, gap_of}
use Rattle.ron_spec_words.specs.Lang.{done}

-- deeper than the limit, or any other fault
pub data Fault : Type 0 where
  deep : Fault
  bad : Fault

-- a value and what follows its stretch, or a fault
pub data Got (A : Type 0) : Type 0 where
  got : A → Text → Got A
  failed : Fault → Got A

-- what stands at the start of a text
abbrev pub Reader : Type 0 → Type 0
Reader A = Text → Got A

-- ---- words

-- this fault at every text
abbrev pub fail : {A : Type 0} → Fault → Reader A
fail f s = failed f

-- the value for the empty stretch
abbrev pub give : {A : Type 0} → A → Reader A
give a s = got a s

-- one character
abbrev pub mark : {A : Type 0} → ℕ → A → Reader A
mark c a [] = failed bad
mark c a (d ∷ s) = if d == c then got a s else failed bad

-- a character of the first class, and the longest run of characters of the second behind it
abbrev pub run : (ℕ → Bool) → (ℕ → Bool) → Reader Text
run p q [] = failed bad
run p q (c ∷ s) = if p c then got (c ∷ run_of q s) (after_run q s) else failed bad

-- a character, and directly behind it the other
abbrev pub behind : {A : Type 0} → ℕ → Reader A → Reader A
behind c r [] = failed bad
behind c r (d ∷ s) = if d == c then r s else failed bad

-- refused where a character of the class follows
abbrev pub unless_before : {A : Type 0} → (ℕ → Bool) → Got A → Got A
unless_before p (got a rest) = if begins p rest then failed bad else got a rest
unless_before p (failed f) = failed f

-- where no character of the class follows
abbrev pub not_before : {A : Type 0} → (ℕ → Bool) → Reader A → Reader A
not_before p r s = unless_before p (r s)

-- the value that is there, or a refusal
abbrev pub given : {B : Type 0} → Option B → Text → Got B
given None rest = failed bad
given (Some b) rest = got b rest

-- what an answer means; a meaning may be refused
abbrev pub meant : {A B : Type 0} → Got A → (A → Option B) → Got B
meant (got a rest) f = given (f a) rest
meant (failed e) f = failed e

-- with a meaning, which may be refused
abbrev pub means : {A B : Type 0} → Reader A → (A → Option B) → Reader B
means r f s = meant (r s) f

-- the first where the text passes a test, else the second
abbrev pub pick : {A : Type 0} → (Text → Bool) → Reader A → Reader A → Reader A
pick p r q s = if p s then r s else q s

-- ---- what gaps join

-- A slash behind the longest gap begins no comment that ends. The grammar has no rule of it: it says "the longest
-- gap" and nothing more, and that nothing it relates begins with a slash is proved (`Begins`, a field of `Part`). So
-- the reader function may refuse there at once (`after_gap`).
--
-- What begins after the longest gap, and may depend on it. Where a slash stands there, it begins no comment that ends, and nothing is read.
abbrev pub after_gap : {A : Type 0} → (Text → Reader A) → Reader A
after_gap q s = if is_at slash (skip s) then failed bad else q (gap_of s) (skip s)

-- what comes next begins after the longest gap
abbrev pub and_then : {A B : Type 0} → Got A → (A → Text → Reader B) → Got B
and_then (got a rest) q = after_gap (q a) rest
and_then (failed f) q = failed f

-- one, the longest gap, and the other, which may depend on what the first answers and on the gap
abbrev pub in_sequence : {A B : Type 0} → Reader A → (A → Text → Reader B) → Reader B
in_sequence r q s = and_then (r s) q

-- a comma or nothing
abbrev pub opt_comma : {A : Type 0} → A → Reader A
opt_comma a = pick (is_at comma) (mark comma a) (give a)

-- The items after the first, up to the closing character. No text has more items than characters, so `fuel` ends it and changes nothing.
unfoldable pub tail : {A : Type 0} → (List A → Text → Reader A) → ℕ → ℕ → List A → Reader (List A)
tail r close zero seen s = failed bad
tail r close (suc fuel) seen s =
    pick (is_at comma)
    (in_sequence (mark comma done)
    (λ _ gap. pick (is_at close) (give []) (in_sequence (r seen gap) (λ a _. means (tail r close fuel (a ∷ seen)) (λ xs. Some (a ∷ xs))))))
    (give []) s

-- the same with as much fuel as a text can need
abbrev pub tail_all : {A : Type 0} → (List A → Text → Reader A) → ℕ → List A → Reader (List A)
tail_all r close seen s = tail r close (suc (length s)) seen s

-- the items from here on, up to the closing character, where these stand before them, the last of them first
abbrev pub items_from : {A : Type 0} → (List A → Text → Reader A) → ℕ → List A → Text → Reader (List A)
items_from r close seen before = pick (is_at close) (give []) (in_sequence (r seen before) (λ a _. means (tail_all r close (a ∷ seen)) (λ xs. Some (a ∷ xs))))

-- items with one comma between neighbours and perhaps a last comma, up to the closing character
abbrev pub items : {A : Type 0} → (List A → Text → Reader A) → ℕ → Text → Reader (List A)
items r close before = items_from r close [] before

-- between an opening and a closing character
abbrev pub group : {A : Type 0} → ℕ → ℕ → (Text → Reader A) → Reader A
group open_mark close_mark r = in_sequence (mark open_mark done) (λ _ gap. in_sequence (r gap) (λ a _. mark close_mark a))

-- perhaps with a comma behind it
abbrev pub with_comma : {A : Type 0} → Reader A → Reader A
with_comma r = in_sequence r (λ a _. opt_comma a)

-- the limit's fault, where the room is less than that many levels
abbrev pub needs : {A : Type 0} → ℕ → ℕ → Reader A → Reader A
needs k room r s = if nat_le k room then r s else failed deep

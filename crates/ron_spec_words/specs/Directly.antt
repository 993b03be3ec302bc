-- Words made of words that stand directly beside one another.
use Rattle.std.specs.Prelude.{◌≡◌, ℕ, Bool, false, not, ◌&&◌, if◌then◌else◌, drop, length, [], ◌∷◌, ◌++◌}
use Rattle.ron_spec_words.specs.Characters.{Text, continues_name}
use Rattle.ron_spec_words.specs.Runs.{begins, begins_with}
use Rattle.ron_spec_words.specs.Lang.{Lang}
use Rattle.ron_spec_words.specs.Reader.{Got, got, failed, bad, Reader}

-- one, and directly behind it the other, which may depend on what the first spells
pub record Directly {A B : Type 0} (L : Lang A) (M : A → Lang B) (t next : Text) (b : B) : Type 0 where
  pub value : A
  pub left : Text
  pub right : Text
  pub split : t ≡ left ++ right
  pub first : L left (right ++ next) value
  pub second : M value right next b

-- any one character
abbrev pub AnyOne : Lang ℕ
AnyOne t next c = t ≡ c ∷ []

-- This fixed word, such as `true`: it counts only where no XID_Continue character follows.
pub record FixedWord {A : Type 0} (w : Text) (a : A) (t next : Text) (b : A) : Type 0 where
  pub same : t ≡ w
  pub ends : begins continues_name next ≡ false
  pub value : a ≡ b

-- ---- their reader functions

-- what an answer goes on with, directly behind it
abbrev pub and_directly : {A B : Type 0} → Got A → (A → Reader B) → Got B
and_directly (got a rest) q = q a rest
and_directly (failed f) q = failed f

-- one, and directly behind it the other, which may depend on what the first answers
abbrev pub directly : {A B : Type 0} → Reader A → (A → Reader B) → Reader B
directly r q s = and_directly (r s) q

-- any one character
abbrev pub any_one : Reader ℕ
any_one [] = failed bad
any_one (c ∷ s) = got c s

-- this fixed word stands at the start of the text
abbrev pub stands : Text → Text → Bool
stands w s = begins_with w s && not (begins continues_name (drop (length w) s))

-- this fixed word
abbrev pub fixed_word : {A : Type 0} → Text → A → Reader A
fixed_word w a s = if stands w s then got a (drop (length w) s) else failed bad

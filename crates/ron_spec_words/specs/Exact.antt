-- A reader function answers exactly what a language relates.
use Rattle.std.specs.Prelude.{◌≡◌, ℕ, true, ◌++◌}
use Rattle.ron_spec_words.specs.Characters.{Text}
use Rattle.ron_spec_words.specs.Runs.{is_at}
use Rattle.ron_spec_words.specs.Gap.{skip, ends_value}
use Rattle.ron_spec_words.specs.Lang.{Lang}
use Rattle.ron_spec_words.specs.Reader.{deep, got, failed, Reader}

-- a front of s spells a, and rest follows it
pub record Takes {A : Type 0} (L : Lang A) (s : Text) (a : A) (rest : Text) : Type 0 where
  pub stretch : Text
  pub split : s ≡ stretch ++ rest
  pub spelled : L stretch rest a

-- at a stretch the reader function answers a and what follows the stretch
pub record Answers {A : Type 0} (r : Reader A) (t next : Text) (a : A) : Type 0 where
  pub answer : r (t ++ next) ≡ got a next

-- what is answered is spelled
abbrev pub Sound : {A : Type 0} → Reader A → Lang A → Type 0
Sound {A} r L = (s : Text) (a : A) (rest : Text) → r s ≡ got a rest → Takes L s a rest

-- what is spelled before a text that is allowed there, where no gap begins, is answered
abbrev pub Complete : {A : Type 0} → Reader A → Lang A → (Text → Type 0) → Type 0
Complete {A} r L F = (t next : Text) (a : A) → L t next a → F next → skip (t ++ next) ≡ t ++ next → Answers r t next a

-- both: what is answered is spelled, and what is spelled is answered
pub record Exact {A : Type 0} (r : Reader A) (L : Lang A) (F : Text → Type 0) : Type 0 where
  pub sound : Sound r L
  pub complete : Complete r L F

-- a word is read wherever it stands and whatever follows it, and its reader function knows no depth
pub record IsWordReader {A : Type 0} (r : Reader A) (L : Lang A) : Type 0 where
  pub sound : Sound r L
  pub complete : (t next : Text) (a : A) → L t next a → Answers r t next a
  pub calm : (s : Text) → r s ≡ failed deep → ⊥

-- anything may follow
abbrev pub Anything : Text → Type 0
Anything next = Unit {0}

-- after a gap, this character follows
abbrev pub Before : ℕ → Text → Type 0
Before c next = is_at c (skip next) ≡ true

-- after a gap, the text ends or goes on with `,`, `:` or a closing bracket
abbrev pub FollowsValue : Text → Type 0
FollowsValue next = ends_value (skip next) ≡ true

-- What stands where writing stopped.
use Rattle.std.specs.Prelude.{◌≡◌, ℕ, List, ◌++◌}
use Rattle.std.specs.Fmt.{WritesInCalls}

-- from w to v a front of the text was put, and nothing else
pub record HasBegun {W : Type 0} (took : W → List ℕ → W → Type 0) (w : W) (text : List ℕ) (v : W) : Type 0 where
  pub front : List ℕ
  pub rest : List ℕ
  pub written : WritesInCalls took w front v
  pub whole : text ≡ front ++ rest

-- from w to v a put failed, of a front of the text
pub record Broke {W : Type 0} (left : W → List ℕ → W → Type 0) (w : W) (text : List ℕ) (v : W) : Type 0 where
  pub piece : List ℕ
  pub rest : List ℕ
  pub whole : text ≡ piece ++ rest
  pub part : left w piece v

-- from w to v a front of the text was put, and then a put failed, of what comes next
pub record HasBroken {W : Type 0} (took left : W → List ℕ → W → Type 0) (w : W) (text : List ℕ) (v : W) : Type 0 where
  pub front : List ℕ
  pub rest : List ℕ
  pub mid : W
  pub written : WritesInCalls took w front mid
  pub whole : text ≡ front ++ rest
  pub broke : Broke left mid rest v

-- Depths within a limit, and within the limit one level deeper: for pieces that brackets stand around.
use Rattle.std.proofs.Common.{◌≡◌, ℕ, zero, suc, ◌+◌, ◌≤◌, max, arith, Option, None, Some}
use Rattle.ron_base.specs.Limit.{one_deeper, IsWithin}

pub within_zero : (limit : Option ℕ) → IsWithin limit 0
within_zero None = tt
within_zero (Some n) = omega arith

pub within_less : (limit : Option ℕ) (d e : ℕ) → d ≤ e → IsWithin limit e → IsWithin limit d
within_less None d e l h = tt
within_less (Some n) d e l h = omega arith

pub within_max : (limit : Option ℕ) (d e : ℕ) → IsWithin limit d → IsWithin limit e → IsWithin limit (max d e)
within_max None d e h k = tt
within_max (Some n) d e h k = omega arith

pub within_deeper : (limit inner : Option ℕ) (d : ℕ) → one_deeper limit ≡ Some inner → IsWithin inner d → IsWithin limit (1 + d)
within_deeper None inner d l h = tt
within_deeper (Some zero) inner d l h = absurd (cc)
within_deeper (Some (suc n)) None d l h = absurd (cc)
within_deeper (Some (suc n)) (Some m) d l h = let same : n ≡ m = cc in omega (arith, h, same)

pub within_inner : (limit inner : Option ℕ) (d : ℕ) → one_deeper limit ≡ Some inner → IsWithin limit (1 + d) → IsWithin inner d
within_inner None None d l h = tt
within_inner None (Some m) d l h = absurd (cc)
within_inner (Some zero) inner d l h = absurd (cc)
within_inner (Some (suc n)) None d l h = absurd (cc)
within_inner (Some (suc n)) (Some m) d l h = let same : n ≡ m = cc in omega (arith, h, same)

pub within_spent : (limit : Option ℕ) (d : ℕ) → one_deeper limit ≡ None → IsWithin limit (1 + d) → ⊥
within_spent None d e h = absurd (cc)
within_spent (Some zero) d e h = omega (arith, h)
within_spent (Some (suc n)) d e h = absurd (cc)

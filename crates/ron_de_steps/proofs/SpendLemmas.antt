-- What may be counted at one place, beside what may be counted at another.
use Rattle.std.proofs.Common.{◌≡◌, ℕ, suc, ◌+◌, ◌*◌, ◌-◌, ◌≤◌, ap, arith}
use Rattle.std.proofs.Math.Nat.{mul-le-mul_left, mul-le-mul_right}
use Rattle.ron_spec_words.specs.Characters.{Text}
use Rattle.ron_spec_words.specs.Beyond.{bytes_in, beyond}
use Rattle.ron_spec_words.proofs.Sizes.{beyond_no_more}
use Rattle.ron_lex.specs.Place.{Place}
use Rattle.ron_lex.specs.Turns.{Stays, GoesOver, Looks, Scans}
use Rattle.ron_de_steps.specs.Spends.{look, settled, allowed, total_behind, total_before, total_inside, Nears, Opens, Enters}

-- ---- sums

sums : (a x y z : ℕ) → x + y ≡ z → a * x + a * y ≡ a * z
sums a x y z e = let k : a * (x + y) ≡ a * z = ap (λ n. a * n) e in omega (arith, k)

-- what is paid for so often is paid for less often too
times : (c d x : ℕ) → d ≤ suc c → suc c * x ≡ (suc c - d) * x + d * x
times c d x le = let e : suc c ≡ (suc c - d) + d = omega (arith, le) in let k : suc c * x ≡ ((suc c - d) + d) * x = ap (λ n. n * x) e in omega (arith, k)

faster : (c d x y : ℕ) → d ≤ suc c → x ≤ y → suc c * x + d * y ≤ suc c * y + d * x
faster c d x y le h = let k : (suc c - d) * x ≤ (suc c - d) * y = mul-le-mul_left (suc c - d) h in omega (arith, k, times c d x le, times c d y le)

parts : (s : Text) → bytes_in (beyond s) + (bytes_in s - bytes_in (beyond s)) ≡ bytes_in s
parts s = omega (arith, beyond_no_more s)

-- ---- one place

-- before a value at whose place no look is left
pub before_none : (c k : ℕ) (place : Place) → total_behind c k place ≤ total_before c k 0 place
unfolding total_behind total_before allowed
before_none c k place = omega arith

pub before_more : (c k m n : ℕ) (place : Place) → m ≤ n → total_before c k m place ≤ total_before c k n place
unfolding total_before allowed
before_more c k m n place le = omega (arith, mul-le-mul_right (look place.rest) le)

pub behind_before : (c k m : ℕ) (place : Place) → total_behind c k place ≤ total_before c k m place
behind_before c k m place = omega (arith, before_none c k place, before_more c k 0 m place (omega arith))

pub turns_behind : (c k : ℕ) (place : Place) → place.turns ≤ total_behind c k place
unfolding total_behind
turns_behind c k place = omega arith

pub turns_before : (c k m : ℕ) (place : Place) → place.turns ≤ total_before c k m place
unfolding total_before
turns_before c k m place = omega arith

-- all that may be counted from a place before a value, by the bytes that are left alone
pub before_most : (c k m : ℕ) (place : Place) → m ≤ 4 * suc k
    → total_before c k m place ≤ place.turns + c * bytes_in place.gap + suc c * bytes_in place.rest + 4 * suc k * bytes_in place.rest
unfolding total_before allowed settled look
before_most c k m place le =
    let b : ℕ = bytes_in (beyond place.rest) in
    let d : ℕ = bytes_in place.rest - bytes_in (beyond place.rest) in
    let looks : m * d ≤ 4 * suc k * d = mul-le-mul_right d le in
    let all : 4 * suc k * b + 4 * suc k * d ≡ 4 * suc k * bytes_in place.rest = sums (4 * suc k) b d (bytes_in place.rest) (parts place.rest) in
    omega (arith, looks, all)

-- ---- one place and the next

-- a step over what is gone over d times
pub nears_settles : (c k d : ℕ) (old new : Place) → d ≤ suc c → GoesOver d old new → Nears old new → total_behind c k new ≤ total_behind c k old
unfolding total_behind settled
nears_settles c k d old new le over near =
    let far : 4 * suc k * bytes_in (beyond new.rest) ≤ 4 * suc k * bytes_in (beyond old.rest) = mul-le-mul_left (4 * suc k) near.eases in
    omega (arith, over, far, faster c d (bytes_in new.rest) (bytes_in old.rest) le near.less)

-- a step to before a value: over a mark and the gap behind it
pub enters_allows : (c k m : ℕ) (old new : Place) → m ≤ 4 * suc k → GoesOver 1 old new → Enters old new → total_before c k m new ≤ total_behind c k old
unfolding total_behind settled
enters_allows c k m old new le over e =
    let gone : c * (bytes_in new.gap + bytes_in new.rest) ≤ c * bytes_in old.rest = mul-le-mul_left c e.with_gap in
    let far : 4 * suc k * bytes_in new.rest ≤ 4 * suc k * bytes_in (beyond old.rest) = mul-le-mul_left (4 * suc k) e.past in
    omega (arith, before_most c k m new le, gone, far, over)

-- a step over a mark, to before the gap behind it
pub opens_allows : (c k : ℕ) (old new : Place) → GoesOver 1 old new → Opens old new → total_inside c k new ≤ total_behind c k old
unfolding total_inside total_behind settled
opens_allows c k old new over h =
    let gone : c * bytes_in new.rest ≤ c * bytes_in old.rest = mul-le-mul_left c (omega (arith, h, beyond_no_more old.rest)) in
    let far : 4 * suc k * bytes_in new.rest ≤ 4 * suc k * bytes_in (beyond old.rest) = mul-le-mul_left (4 * suc k) h in
    omega (arith, over, gone, far)

-- and over that gap, to before a value
pub inside_allows : (c k m : ℕ) (old new : Place) → m ≤ 4 * suc k → GoesOver 1 old new → bytes_in new.gap + bytes_in new.rest ≡ bytes_in old.rest
    → total_before c k m new ≤ total_inside c k old
unfolding total_inside
inside_allows c k m old new le over gap =
    let all : c * (bytes_in new.gap + bytes_in new.rest) ≡ c * bytes_in old.rest = ap (λ n. c * n) gap in
    let far : 4 * suc k * bytes_in new.rest ≤ 4 * suc k * bytes_in old.rest = mul-le-mul_left (4 * suc k) (omega (arith, gap)) in
    omega (arith, before_most c k m new le, over, all, far)

-- d looks, and then something else at the same place
pub looks_leave : (c k d m n : ℕ) (old new : Place) → d + m ≤ n → Stays old new → Looks d old new → total_before c k m new ≤ total_before c k n old
unfolding total_before allowed look
looks_leave c k d m n old new le stays looks =
    let b : ℕ = bytes_in (beyond old.rest) in
    let gap : c * bytes_in new.gap ≡ c * bytes_in old.gap = ap (λ s. c * bytes_in s) stays.gap in
    let rest : settled c k new.rest ≡ settled c k old.rest = ap (settled c k) stays.rest in
    let same : m * (bytes_in new.rest - bytes_in (beyond new.rest)) ≡ m * (bytes_in old.rest - b) =
    ap (λ s. m * (bytes_in s - bytes_in (beyond s))) stays.rest in
    let all : d * b + d * (bytes_in old.rest - b) ≡ d * bytes_in old.rest = sums d b (bytes_in old.rest - b) (bytes_in old.rest) (parts old.rest) in
    let most : (d + m) * (bytes_in old.rest - b) ≤ n * (bytes_in old.rest - b) = mul-le-mul_right (bytes_in old.rest - b) le in
    omega (arith, gap, rest, same, looks, all, most)

-- one place in turn with the same, whatever was counted up to there
pub before_same : (c k m : ℕ) (old new : Place) → Stays old new → new.turns ≤ old.turns → total_before c k m new ≤ total_before c k m old
unfolding total_before
before_same c k m old new stays h =
    let gap : c * bytes_in new.gap ≡ c * bytes_in old.gap = ap (λ s. c * bytes_in s) stays.gap in
    let rest : allowed c k m new.rest ≡ allowed c k m old.rest = ap (allowed c k m) stays.rest in
    omega (arith, gap, rest, h)

-- behind a value the gap doesn't matter
pub behind_same : (c k : ℕ) (old new : Place) → new.rest ≡ old.rest → new.turns ≤ old.turns → total_behind c k new ≤ total_behind c k old
unfolding total_behind
behind_same c k old new e h = let rest : settled c k new.rest ≡ settled c k old.rest = ap (settled c k) e in omega (arith, rest, h)

-- ---- refusals

-- what scans what is left d times
pub scans_behind : (c k d : ℕ) (old new : Place) → d ≤ suc c → Scans d old new → new.turns ≤ total_behind c k old
unfolding total_behind settled
scans_behind c k d old new le scans = omega (arith, scans, times c d (bytes_in old.rest) le)

-- behind an opening mark
pub scans_inside : (c k d : ℕ) (old new : Place) → d ≤ suc c → Scans d old new → new.turns ≤ total_inside c k old
unfolding total_inside
scans_inside c k d old new le scans =
    let some : d * bytes_in old.rest ≤ (suc c + 4 * suc k) * bytes_in old.rest = mul-le-mul_right (bytes_in old.rest) (omega (arith, le)) in
    omega (arith, scans, some)

-- and as often more as looks are left
pub scans_before : (c k d m : ℕ) (old new : Place) → m ≤ 4 * suc k → d ≤ suc c + m → Scans d old new → new.turns ≤ total_before c k m old
unfolding total_before allowed settled look
scans_before c k d m old new few le scans =
    let b : ℕ = bytes_in (beyond old.rest) in
    let some : d * bytes_in old.rest ≤ (suc c + m) * bytes_in old.rest = mul-le-mul_right (bytes_in old.rest) le in
    let far : m * b ≤ 4 * suc k * b = mul-le-mul_right b few in
    let all : m * b + m * (bytes_in old.rest - b) ≡ m * bytes_in old.rest = sums m b (bytes_in old.rest - b) (bytes_in old.rest) (parts old.rest) in
    omega (arith, scans, some, far, all)

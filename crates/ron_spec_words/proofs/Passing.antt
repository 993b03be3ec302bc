-- What a language spells is a walk over whole tokens, one lemma for each way to make a language: for `Parts`.
use Rattle.std.proofs.Common.{◌≡◌, ℕ, suc, Bool, true, false, List, [], ◌∷◌, ◌++◌, inl, inr, Option, Some}
use Rattle.ron_spec_words.specs.Characters.{Text}
use Rattle.ron_spec_words.specs.Runs.{begins}
use Rattle.ron_spec_words.specs.Gap.{LongGap, skip, is_delimiter}
use Rattle.ron_spec_words.specs.Lang.{Lang, done, Nothing, Empty, Mark, Behind, Means, Or, When, Then, At, OptComma, Tail, Items, Group, Needs}
use Rattle.ron_spec_words.specs.Exact.{Before, FollowsValue}
use Rattle.ron_spec_words.specs.Scan.{token, is_opening, is_closing, Walk, here, Passes}
use Rattle.ron_spec_words.proofs.Words.{First}
use Rattle.ron_spec_words.proofs.Exactly.{three, stops_gap, tail_stops, closes}
use Rattle.ron_spec_words.proofs.Walks.{walk_on, walk_any, walk_within, is_other, walk_token, walk_open, walk_close, walk_comma, walk_gap}

-- ---- words

-- what is one token, and neither a bracket nor a comma
pub passes_token : {A : Type 0} {b : Bool} {L : Lang A} {F : Text → Type 0} → First (λ s. begins is_other s ≡ true) L
    → ((t next : Text) (a : A) → L t next a → F next → token (t ++ next) ≡ Some next) → Passes b L F
passes_token {b = b} h k = record { over = λ d t next a z f n. walk_token b d t next (h.holds t next a z) (k t next a z f) }

-- a character that is a token by itself, and neither a bracket nor a comma
pub passes_mark : {A : Type 0} {b : Bool} {F : Text → Type 0} (c : ℕ) (a : A) → is_other c ≡ true → ((s : Text) → token (c ∷ s) ≡ Some s)
    → Passes b (Mark c a) F
passes_mark {b = b} c a h k = record { over = λ d t next x z f n. rw z.0 (walk_token b d (c ∷ []) next h (k next)) }

-- the same, and directly behind it what begins no gap
pub passes_behind : {A : Type 0} {b : Bool} {L : Lang A} {F : Text → Type 0} (c : ℕ) → is_other c ≡ true → ((s : Text) → token (c ∷ s) ≡ Some s)
    → First (λ s. skip s ≡ s) L → Passes b L F → Passes b (Behind c L) F
passes_behind {b = b} c h k o p = record {
  over = λ d t next a z f n. rw z.split
      (walk_on (walk_token b d (c ∷ []) (z.rest ++ next) h (k (z.rest ++ next))) (p.over d z.rest next a z.spelled f (o.holds z.rest next a z.spelled)));
}

-- brackets with nothing between them
pub passes_empty_brackets : {A : Type 0} {b : Bool} {F : Text → Type 0} (o c : ℕ) (a : A) → is_opening o ≡ true → is_closing c ≡ true
    → Passes b (Behind o (Mark c a)) F
passes_empty_brackets {b = b} o c a h k =
    record { over = λ d t next x z f n. rw (z.split, z.spelled.0) (walk_on (walk_open b d o (c ∷ next) h) (walk_close b d c next k)) }

-- ---- meanings and choices

pub passes_nothing : {A : Type 0} {b : Bool} {F : Text → Type 0} → Passes b (Nothing {A = A}) F
passes_nothing = record { over = λ d t next a z f n. absurd z }

pub passes_empty : {A : Type 0} {b : Bool} {F : Text → Type 0} (a : A) → Passes b (Empty a) F
passes_empty a = record { over = λ d t next x z f n. rw z.0 (here d next) }

pub passes_means : {A B : Type 0} {b : Bool} {L : Lang A} {F : Text → Type 0} {f : A → Option B} → Passes b L F → Passes b (Means L f) F
passes_means h = record { over = λ d t next a z. h.over d t next z.value z.spelled }

pub passes_needs : {A : Type 0} {b : Bool} {L : Lang A} {F : Text → Type 0} {k room : ℕ} → Passes b L F → Passes b (Needs k room L) F
passes_needs h = record { over = λ d t next a z. h.over d t next a z.1 }

pub passes_when : {A : Type 0} {b : Bool} {L : Lang A} {F : Text → Type 0} (p : Text → Bool) → Passes b L F → Passes b (When p L) F
passes_when p h = record { over = λ d t next a z. h.over d t next a z.1 }

pub passes_or : {A : Type 0} {b : Bool} {L M : Lang A} {F : Text → Type 0} → Passes b L F → Passes b M F → Passes b (Or L M) F
passes_or {A} {b} {L} {M} {F} h k = record { over = both }
  where
    both : (d : ℕ) (t next : Text) (a : A) → Or L M t next a → F next → skip (t ++ next) ≡ t ++ next → Walk b d (t ++ next) d next
    both d t next a (inl z) = h.over d t next a z
    both d t next a (inr z) = k.over d t next a z

-- ---- what may follow, and whether commas may stand in it

pub passes_before : {A : Type 0} {b : Bool} {L : Lang A} (F G : Text → Type 0) → ((next : Text) → G next → F next) → Passes b L F → Passes b L G
passes_before F G f h = record { over = λ d t next a z g. h.over d t next a z (f next g) }

pub passes_any : {A : Type 0} (b : Bool) {L : Lang A} {F : Text → Type 0} → Passes false L F → Passes b L F
passes_any b h = record { over = λ d t next a z f n. walk_any b (h.over d t next a z f n) }

-- ---- what gaps join

-- a stretch, a gap and a stretch
walk_three : (b : Bool) (d : ℕ) (left gap right next : Text) → Walk b d (left ++ (gap ++ (right ++ next))) d (gap ++ (right ++ next))
    → LongGap gap (right ++ next) → Walk b d (right ++ next) d next → Walk b d ((left ++ (gap ++ right)) ++ next) d next
walk_three b d left gap right next v g w = rw (three left gap right next) (walk_on v (walk_on (walk_gap b d gap (right ++ next) g) w))

pub passes_then : {A B : Type 0} {b : Bool} {L : Lang A} {M : A → Text → Lang B} {F G : Text → Type 0} → Passes b L F
    → ((a : A) (gap : Text) → Passes b (M a gap) G)
    → ((a : A) (gap right next : Text) (x : B) → LongGap gap (right ++ next) → M a gap right next x → G next → F (gap ++ (right ++ next)))
    → Passes b (Then L M) G
passes_then {b = b} h k follows = record {
  over = λ d t next x z g n.
      let n' : skip (z.left ++ (z.gap ++ (z.right ++ next))) ≡ z.left ++ (z.gap ++ (z.right ++ next)) = rw (z.split, three z.left z.gap z.right next) at n in
      rw z.split (walk_three b d z.left z.gap z.right next
      (h.over d z.left (z.gap ++ (z.right ++ next)) z.value z.first (follows z.value z.gap z.right next x z.is_gap z.second g) n') z.is_gap
      ((k z.value z.gap).over d z.right next x z.second g z.is_gap.longest));
}

passes_comma : {A : Type 0} {F : Text → Type 0} (a : A) → Passes true (Mark 44 a) F
passes_comma a = record { over = λ d t next x z f n. rw z.0 (walk_comma d next) }

pub passes_opt_comma : {A : Type 0} {F : Text → Type 0} (a : A) → Passes true (OptComma a) F
passes_opt_comma a = passes_or (passes_comma a) (passes_empty a)

module _ {A : Type 0} (L : List A → Text → Lang A) (close : ℕ) (is_close : is_delimiter close ≡ true)
    (h : (seen : List A) (gap : Text) → Passes false (L seen gap) FollowsValue) where
  -- an item, and then the rest of the items
  item_over : (seen : List A) (before : Text) (d : ℕ) (t next : Text) (a : A) (xs : List A)
      (z : Then (At (L seen before) a) (λ _ _ u n _. Tail L (a ∷ seen) u n xs) t next done) → Before close next → skip (t ++ next) ≡ t ++ next
      → Walk true d (z.right ++ next) d next → Walk true d (t ++ next) d next
  item_over seen before d t next a xs z f n w =
      let n' : skip (z.left ++ (z.gap ++ (z.right ++ next))) ≡ z.left ++ (z.gap ++ (z.right ++ next)) = rw (z.split, three z.left z.gap z.right next) at n in
      let stops = stops_gap z.gap (z.right ++ next) z.is_gap (tail_stops L close is_close (a ∷ seen) z.right next xs z.second f z.is_gap.longest) in
      rw z.split
      (walk_three true d z.left z.gap z.right next (walk_any true ((h seen before).over d z.left (z.gap ++ (z.right ++ next)) a z.first stops n')) z.is_gap w)

  tail_over : (seen : List A) (d : ℕ) (t next : Text) (xs : List A) → Tail L seen t next xs → Before close next → skip (t ++ next) ≡ t ++ next
      → Walk true d (t ++ next) d next
  tail_over seen d t next [] (inl z) f n = rw z.0 (here d next)
  tail_over seen d t next [] (inr z) f n =
      rw z.split (walk_three true d z.left z.gap z.right next (rw z.first.0 (walk_comma d (z.gap ++ (z.right ++ next)))) z.is_gap (rw z.second.0 (here d next)))
  tail_over seen d t next (a ∷ xs) z f n =
      rw z.split (walk_three true d z.left z.gap z.right next (rw z.first.0 (walk_comma d (z.gap ++ (z.right ++ next)))) z.is_gap
      (item_over seen z.gap d z.right next a xs z.second f z.is_gap.longest
      (tail_over (a ∷ seen) d z.second.right next xs z.second.second f z.second.is_gap.longest)))

  items_over : (before : Text) (d : ℕ) (t next : Text) (xs : List A) → Items L before t next xs → Before close next → skip (t ++ next) ≡ t ++ next
      → Walk true d (t ++ next) d next
  items_over before d t next [] z f n = rw z (here d next)
  items_over before d t next (a ∷ xs) z f n = item_over [] before d t next a xs z f n (tail_over (a ∷ []) d z.right next xs z.second f z.is_gap.longest)

  pub passes_items : (before : Text) → Passes true (Items L before) (Before close)
  passes_items before = record { over = λ d t next xs z f n. items_over before d t next xs z f n }

pub passes_group : {A : Type 0} {b : Bool} {F : Text → Type 0} (o c : ℕ) {L : Text → Lang A} → is_opening o ≡ true → is_closing c ≡ true
    → ((gap : Text) → Passes true (L gap) (Before c)) → Passes b (Group o c L) F
passes_group {b = b} o c h k p = record {
  over = λ d t next a z f n.
      let y = z.second in
      let inside : Text = y.gap ++ (y.right ++ next) in
      let n' : skip (y.left ++ inside) ≡ y.left ++ inside = rw (y.split, three y.left y.gap y.right next) at z.is_gap.longest in
      let follows : Before c inside = closes c y.value y.gap y.right next a y.is_gap y.second tt in
      let content : Walk b (suc d) (y.left ++ inside) (suc d) inside = walk_within ((p z.gap).over d y.left inside y.value y.first follows n') in
      let close : Walk b (suc d) (y.right ++ next) d next = rw y.second.0 (walk_close b d c next k) in
      let behind : Walk b (suc d) (z.right ++ next) d next =
      rw (y.split, three y.left y.gap y.right next) (walk_on content (walk_on (walk_gap b (suc d) y.gap (y.right ++ next) y.is_gap) close)) in
      let opening : Walk b d (z.left ++ (z.gap ++ (z.right ++ next))) (suc d) (z.gap ++ (z.right ++ next)) =
      rw z.first.0 (walk_open b d o (z.gap ++ (z.right ++ next)) h) in
      rw (z.split, three z.left z.gap z.right next) (walk_on opening (walk_on (walk_gap b (suc d) z.gap (z.right ++ next) z.is_gap) behind));
}

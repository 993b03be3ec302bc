-- What is laid out keeps its words and its comments, whatever the layout wishes.
use Rattle.std.proofs.Common.{◌≡◌, ℕ, zero, suc, ◌-◌, ◌≤◌, Bool, true, false, if◌then◌else◌, cond, length, length-append, take, drop, [], ◌∷◌, ◌++◌, Some, None}
use Rattle.std.proofs.Common.{Option, option_map, option_and_then}
use Rattle.std.proofs.Common.{refl, sym, ap, subst, ◌∙◌, append_assoc, eqb-true, arith}
use Rattle.std.proofs.lemmas.Bool.{and_parts}
use Rattle.ron_spec_words.specs.Characters.{Text}
use Rattle.ron_spec_words.specs.Runs.{is_at}
use Rattle.ron_spec_words.specs.Gap.{Gap, skip, gap_of}
use Rattle.ron_spec_words.specs.Scan.{token, starts_gap}
use Rattle.ron_spec_words.proofs.Gaps.{cut, take-front}
use Rattle.ron_spec_words.proofs.Fronts.{token_front}
use Rattle.ron_format_words.specs.Alike.{Before, a_mark, ends_item}
use Rattle.ron_format_words.specs.Edge.{IsEdge, gap_alone, with_comma, granted}
use Rattle.ron_format_words.specs.Places.{Place, in_head, place_behind, commas_in, ended}
use Rattle.ron_format_words.specs.Laid.{Wish, is_separated, edge_of, past_edge, granted_at, laid_from, laid, KeepsWords, KeepsComments}
use Rattle.ron_format_words.specs.Written.{before_edge, place_past_edge, Kept, KeptFromWord, KeptFromEdge}
use Rattle.ron_format_words.proofs.Edges.{alone_holds_none, is_granted}
use Rattle.ron_format_words.proofs.Written.{kept_edge, kept_token, written_start}

-- ---- where an edge is cut

-- the text is an edge and what follows it
pub record CutsAtEdge (s edge rest : Text) : Type 0 where
  pub split : s ≡ edge ++ rest
  pub is_edge : IsEdge edge rest

pub edge_cut : (b : Before) (s : Text) → CutsAtEdge s (edge_of b s) (past_edge b s)
unfolding edge_of past_edge
edge_cut b s = go (is_separated b s) refl
  where
    whole : (x : Text) → skip s ≡ x → is_at 44 x ≡ true → CutsAtEdge s (gap_of s ++ 44 ∷ gap_of (drop 1 x)) (skip (drop 1 x))
    whole [] e h = absurd (cc)
    whole (c ∷ x) e h =
        let same : skip s ≡ 44 ∷ x = e ∙ ap (λ d. d ∷ x) (eqb-true c 44 h) in
        let inner = cut x in
        let gap : Gap (gap_of s) (44 ∷ (gap_of x ++ skip x)) = subst (λ y. Gap (gap_of s) y) (same ∙ ap (λ y. 44 ∷ y) inner.split) (cut s).is_gap.is_gap in
        record {
          split = (cut s).split ∙ ap (λ y. gap_of s ++ y) (same ∙ ap (λ y. 44 ∷ y) inner.split) ∙ sym (append_assoc (gap_of s) (44 ∷ gap_of x) (skip x));
          is_edge = with_comma (gap_of s) (gap_of x) (skip x) gap inner.is_gap;
        }

    go : (x : Bool) → is_separated b s ≡ x
        → CutsAtEdge s (if x then gap_of s ++ 44 ∷ gap_of (drop 1 (skip s)) else gap_of s) (if x then skip (drop 1 (skip s)) else skip s)
    go true e = whole (skip s) refl (and_parts (ends_item b) (is_at 44 (skip s)) e).1
    go false e = record { split = (cut s).split; is_edge = gap_alone (gap_of s) (skip s) (cut s).is_gap }

-- ---- the text from a word on

mapped_is : {A B : Type 0} (f : A → B) (o : Option A) (b : B) → option_map f o ≡ Some b → (a : A) × (o ≡ Some a) × (b ≡ f a)
mapped_is f None b e = absurd (cc)
mapped_is f (Some a) b e = (a, refl, cc)

then_is : {A B : Type 0} (f : A → Option B) (o : Option A) (b : B) → option_and_then f o ≡ Some b → (a : A) × (o ≡ Some a) × (f a ≡ Some b)
then_is f None b e = absurd (cc)
then_is f (Some a) b e = (a, refl, e)

-- past the characters that were counted
laid-counted : (wish : Wish) (n : ℕ) (p : Place) (t s : Text) → laid_from wish (length t) n p (t ++ s) ≡ laid_from wish zero n p s
unfolding laid_from
laid-counted wish n p [] s = refl
laid-counted wish n p (c ∷ t) s = laid-counted wish n p t s

-- what is laid out of a text from a word on: a token, what is granted for the edge behind it, and the rest laid out
record LaidOn (wish : Wish) (n : ℕ) (p : Place) (c : ℕ) (s u : Text) : Type 0 where
  more : Text
  next : Text
  laid : Text
  split : s ≡ more ++ next
  no_gap : starts_gap c ≡ false
  is_token : token (c ∷ (more ++ next)) ≡ Some next
  is_laid : laid_from wish zero (suc n) (place_past_edge (place_behind p c) (edge_of (before_edge (c ∷ s)) next)) (past_edge (before_edge (c ∷ s)) next)
      ≡ Some laid
  is_whole : u ≡ c ∷ (more ++ (granted_at (place_behind p c) (before_edge (c ∷ s)) (wish n) next ++ laid))

laid_on : (wish : Wish) (n : ℕ) (p : Place) (c : ℕ) (s u : Text) → laid_from wish zero n p (c ∷ s) ≡ Some u → LaidOn wish n p c s u
unfolding laid_from
laid_on wish n p c s u e = go (starts_gap c) refl e
  where
    b : Before
    b = before_edge (c ∷ s)

    q : Text → Place
    q next = place_past_edge (place_behind p c) (edge_of b next)

    given : Text → Text
    given next = granted_at (place_behind p c) b (wish n) next

    step : Text → Option Text
    step next = option_map (λ v. take (length (c ∷ s) - length next) (c ∷ s) ++ (given next ++ v))
        (laid_from wish (length s - length (past_edge b next)) (suc n) (q next) s)

    at_token : starts_gap c ≡ false → (next y t : Text) → token (c ∷ s) ≡ Some next → laid_from wish (length s - length (past_edge b next)) (suc n) (q next) s
        ≡ Some y → u ≡ take (length (c ∷ s) - length next) (c ∷ s) ++ (given next ++ y)
        → s ≡ t ++ next → LaidOn wish n p c s u
    at_token k next y t is_token l m split =
        let edge : Text = edge_of b next in
        let rest : Text = past_edge b next in
        let there : s ≡ (t ++ edge) ++ rest = split ∙ ap (λ z. t ++ z) (edge_cut b next).split ∙ sym (append_assoc t edge rest) in
        let passed : length s - length rest ≡ length (t ++ edge) = omega (arith, ap length there, length-append (t ++ edge) rest) in
        let counted : laid_from wish (length (t ++ edge)) (suc n) (q next) ((t ++ edge) ++ rest) ≡ Some y =
        subst (λ z. laid_from wish (length (t ++ edge)) (suc n) (q next) z ≡ Some y) there
        (subst (λ z. laid_from wish z (suc n) (q next) s ≡ Some y) passed l) in
        record {
          more = t;
          next = next;
          laid = y;
          split = split;
          no_gap = k;
          is_token = subst (λ z. token (c ∷ z) ≡ Some next) split is_token;
          is_laid = sym (laid-counted wish (suc n) (q next) (t ++ edge) rest) ∙ counted;
          is_whole =
              m ∙ ap (λ z. take (length (c ∷ z) - length next) (c ∷ z) ++ (given next ++ y)) split ∙ ap (λ z. z ++ (given next ++ y)) (take-front (c ∷ t) next);
        }

    found : starts_gap c ≡ false → (next y : Text) → token (c ∷ s) ≡ Some next → laid_from wish (length s - length (past_edge b next)) (suc n) (q next) s
        ≡ Some y → u ≡ take (length (c ∷ s) - length next) (c ∷ s) ++ (given next ++ y)
        → (d : ℕ) × (t : Text) × (c ∷ s ≡ d ∷ (t ++ next)) → LaidOn wish n p c s u
    found k next y is_token l m (d, t, f) = at_token k next y t is_token l m (cc)

    go : (x : Bool) → starts_gap c ≡ x → cond x None (option_and_then step (token (c ∷ s))) ≡ Some u → LaidOn wish n p c s u
    go true k r = absurd (cc)
    go false k r =
        let x = then_is step (token (c ∷ s)) u r in
        let y = mapped_is (λ v. take (length (c ∷ s) - length x.0) (c ∷ s) ++ (given x.0 ++ v))
        (laid_from wish (length s - length (past_edge b x.0)) (suc n) (q x.0) s) u x.2 in
        found k x.0 y.0 x.1 y.1 y.2 (token_front (c ∷ s) x.0 x.1)

-- what is granted for the edge with which the text begins keeps it
kept_at : (p : Place) (b : Before) (wish s other : Text) → KeptFromWord (place_past_edge p (edge_of b s)) (past_edge b s) other
    → KeptFromEdge p b s (granted_at p b wish s ++ other)
unfolding granted_at
kept_at p b wish s other r =
    let x = edge_cut b s in
    let k : Bool = commas_in p (past_edge b s) in
    let given : Text = granted k b (edge_of b s) wish (past_edge b s) in
    subst (λ z. KeptFromEdge p b z (given ++ other)) (sym x.split)
    (kept_edge k p b (edge_of b s) given (past_edge b s) other x.is_edge (is_granted k b (edge_of b s) wish (past_edge b s)) (λ e. e) r)

-- a text of at most m characters
kept_within : (m : ℕ) (wish : Wish) (n : ℕ) (p : Place) (s u : Text) → length s ≤ m → laid_from wish zero n p s ≡ Some u → KeptFromWord p s u
unfolding laid_from
kept_within m wish n p [] u l e = subst (λ x. KeptFromWord p [] x) (let same : [] ≡ u = cc in same) (record { words = ended p; comments = refl })
kept_within zero wish n p (c ∷ s) u l e = absurd (omega (arith, l))
kept_within (suc m) wish n p (c ∷ s) u l e =
    let x = laid_on wish n p c s u e in
    let b : Before = before_edge (c ∷ s) in
    let shorter : length (past_edge b x.next) ≤ m =
    omega
    (arith, l, ap length x.split, length-append x.more x.next, ap length (edge_cut b x.next).split, length-append (edge_of b x.next) (past_edge b x.next)) in
    let r = kept_within m wish (suc n) (place_past_edge (place_behind p c) (edge_of b x.next)) (past_edge b x.next) x.laid shorter x.is_laid in
    let given : Text = granted_at (place_behind p c) b (wish n) x.next in
    let kept = kept_token p c x.more x.next (given ++ x.laid) x.no_gap x.is_token (kept_at (place_behind p c) b (wish n) x.next x.laid r) in
    subst (λ z. KeptFromWord p (c ∷ s) z) (sym x.is_whole) (subst (λ z. KeptFromWord p (c ∷ z) (c ∷ (x.more ++ (given ++ x.laid)))) (sym x.split) kept)

kept : (wish : Wish) (s u : Text) → laid wish s ≡ Some u → Kept s u
unfolding laid past_edge edge_of
kept wish s u e =
    let given : Text = granted_at in_head a_mark (wish 0) s in
    let x = mapped_is (λ v. given ++ v) (laid_from wish zero 1 in_head (skip s)) u e in
    let none : place_past_edge in_head (gap_of s) ≡ in_head = rw (alone_holds_none (gap_of s) (skip s) (cut s).is_gap.is_gap) refl in
    let r = kept_within (length (skip s)) wish 1 in_head (skip s) x.0 (omega arith) x.1 in
    let edge = kept_at in_head a_mark (wish 0) s x.0 (subst (λ q. KeptFromWord q (skip s) x.0) (sym none) r) in
    subst (λ z. Kept s z) (sym x.2) ((written_start s).goes_on (given ++ x.0) edge)

pub keeps_words : KeepsWords
keeps_words wish s u e = (kept wish s u e).words

pub keeps_comments : KeepsComments
keeps_comments wish s u e = (kept wish s u e).comments

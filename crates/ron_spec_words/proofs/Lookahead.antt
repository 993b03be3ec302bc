-- The lookahead goes where whole tokens lead: it tells several items from one.
use Rattle.std.proofs.Common.{◌≡◌, ℕ, zero, suc, ◌-◌, ◌==◌, eqb-true, Bool, true, false, not, ◌&&◌, cond, drop, length, List, [], ◌∷◌, ◌++◌, Option, Some, None}
use Rattle.std.proofs.Common.{option_map, inl, inr, refl, sym, ap, subst, ◌∙◌, length-append, arith}
use Rattle.std.proofs.lemmas.Bool.{and_parts, not-true}
use Rattle.std.proofs.Math.Seq.{drop-append_seam}
use Rattle.std.specs.Option.{unwrap_or}
use Rattle.ron_spec_words.specs.Characters.{Text}
use Rattle.ron_spec_words.specs.Runs.{is_at}
use Rattle.ron_spec_words.specs.Gap.{skip, LongGap, ends_value}
use Rattle.ron_spec_words.specs.Lang.{Lang, done, Mark, Then, OptComma, Items, WithComma}
use Rattle.ron_spec_words.specs.Reader.{Reader}
use Rattle.ron_spec_words.specs.Exact.{IsWordReader, Before, FollowsValue}
use Rattle.ron_spec_words.specs.Name.{Name}
use Rattle.ron_spec_words.specs.Scan.{token, level, ends, Walk, here, on, Passes}
use Rattle.ron_spec_words.specs.Lookahead.{leads_to, opens_field, seek, separates, holds_several, HoldsSeveral, TellsSeveral}
use Rattle.ron_spec_words.proofs.Gaps.{skip-append}
use Rattle.ron_spec_words.proofs.Words.{First}
use Rattle.ron_spec_words.proofs.Names.{word_name}
use Rattle.ron_spec_words.proofs.Fronts.{token_front}
use Rattle.ron_spec_words.proofs.Walks.{walk_gap}
use Rattle.ron_spec_words.proofs.Exactly.{Opens, three, stops_gap, comma_follows, not_stop, is_at_other, first_then, first_mark}

-- ---- the lookahead along a walk

seek-counted : (d : ℕ) (t s : Text) → seek (length t) d (t ++ s) ≡ seek zero d s
unfolding seek
seek-counted d [] s = refl
seek-counted d (c ∷ t) s = seek-counted d t s

-- it goes on behind a token that ends nothing
seek-token : (d c : ℕ) (t next : Text) → ends false d c ≡ false → token (c ∷ (t ++ next)) ≡ Some next
    → seek zero d (c ∷ (t ++ next)) ≡ seek zero (level d c) next
unfolding seek
seek-token d c t next e h =
    let n : length (t ++ next) - length next ≡ length t = omega (arith, length-append t next) in
    rw (e, h, n) (seek-counted (level d c) t next)

pub seek-walk : {d e : ℕ} {s u : Text} → Walk false d s e u → seek zero d s ≡ seek zero e u
seek-walk (here d s) = refl
seek-walk (on d c t next e u h k r) = seek-token d c t next h k ∙ seek-walk r

-- and stops at the first that ends something
pub seek-end : (d c : ℕ) (s : Text) → ends false d c ≡ true → seek zero d (c ∷ s) ≡ c ∷ s
unfolding seek
seek-end d c s e = rw e refl

-- ---- where it stops, whole tokens lead

ends_outside : (d c : ℕ) → ends false d c ≡ true → d ≡ zero
ends_outside zero c e = refl
ends_outside (suc d) c e = absurd (cc)

-- what a token leaves of a text
drop_to : (t rest s : Text) → s ≡ t ++ rest → drop (length s - length rest) s ≡ rest
drop_to t rest s e = let n : length s - length rest ≡ length t = omega (arith, ap length e, length-append t rest) in rw (n, e) (drop-append_seam t rest)

found : (k d : ℕ) (s : Text) (c : ℕ) (u : Text) → seek k d s ≡ c ∷ u → Walk false d (drop k s) zero (c ∷ u)
unfolding seek
found k d [] c u e = absurd (cc)
found (suc k) d (b ∷ s) c u e = found k d s c u e
found zero d (b ∷ s) c u e = go (λ k l h. found k l s c u h) (ends false d b) refl e
  where
    Again : Type 0
    Again = (k l : ℕ) → seek k l s ≡ c ∷ u → Walk false l (drop k s) zero (c ∷ u)

    past : Again → (o : Option Text) → token (b ∷ s) ≡ o → ends false d b ≡ false
        → unwrap_or (option_map (λ rest. seek (length s - length rest) (level d b) s) o) [] ≡ c ∷ u → Walk false d (b ∷ s) zero (c ∷ u)
    past again None h n k = absurd (cc)
    past again (Some rest) h n k =
        let f = token_front (b ∷ s) rest h in
        let same : s ≡ f.1 ++ rest = let g = f.2 in cc in
        let w : Walk false (level d b) rest zero (c ∷ u) =
        subst (λ x. Walk false (level d b) x zero (c ∷ u)) (drop_to f.1 rest s same) (again (length s - length rest) (level d b) k) in
        let h' : token (b ∷ (f.1 ++ rest)) ≡ Some rest = subst (λ x. token (b ∷ x) ≡ Some rest) same h in
        subst (λ x. Walk false d (b ∷ x) zero (c ∷ u)) (sym same) (on d b f.1 rest zero (c ∷ u) n h' w)

    go : Again → (x : Bool) → ends false d b ≡ x → cond x (b ∷ s)
        (unwrap_or (option_map (λ rest. seek (length s - length rest) (level d b) s) (token (b ∷ s))) []) ≡ c ∷ u → Walk false d (b ∷ s) zero (c ∷ u)
    go again true h k = let same : ◌≡◌ {A = Text} (b ∷ s) (c ∷ u) = k in rw (ends_outside d b h, same) (here zero (c ∷ u))
    go again false h k = past again (token (b ∷ s)) refl h k

pub tells_several : TellsSeveral
unfolding holds_several
tells_several s = (λ e. to (seek zero zero s) refl e, λ z. ap separates (seek-walk z.walk ∙ seek-end zero 44 z.rest refl) ∙ ap not z.more)
  where
    to : (u : Text) → seek zero zero s ≡ u → separates u ≡ true → HoldsSeveral s
    to [] h e = absurd (cc)
    to (c ∷ u) h e =
        let k = and_parts (c == 44) (not (is_at 41 (skip u))) e in
        record {
          rest = u;
          walk = subst (λ x. Walk false zero s zero (x ∷ u)) (eqb-true c 44 k.0) (found zero zero s c u h);
          more = not-true (is_at 41 (skip u)) k.1;
        }

-- ---- several items, and one

-- behind an item and the gap after it
seek-item : {A : Type 0} {L : Lang A} → Passes false L FollowsValue → (left gap s : Text) (a : A) → L left (gap ++ s) a → LongGap gap s
    → FollowsValue (gap ++ s) → skip (left ++ (gap ++ s)) ≡ left ++ (gap ++ s) → seek zero zero (left ++ (gap ++ s)) ≡ seek zero zero s
seek-item p left gap s a z g f n = seek-walk (p.over zero left (gap ++ s) a z f n) ∙ seek-walk (walk_gap false zero gap s g)

seek-at : (c : ℕ) (s : Text) → ends false zero c ≡ true → is_at c s ≡ true → seek zero zero s ≡ s
seek-at c [] e h = absurd (cc)
seek-at c (d ∷ s) e h = seek-end zero d s (ap (ends false zero) (eqb-true d c h) ∙ e)

-- a comma, a gap and the next item separate
separates_item : (gap s : Text) → LongGap gap s → ends_value s ≡ false → separates (44 ∷ (gap ++ s)) ≡ true
separates_item gap s g e = ap (λ u. not (is_at 41 u)) (skip-append gap s g) ∙ ap not (not_stop 41 s refl e)

-- Where two items stand or more, the lookahead finds several.
pub items_several : {A : Type 0} (L : List A → Text → Lang A) → ((seen : List A) (gap : Text) → Opens (L seen gap))
    → ((seen : List A) (gap : Text) → Passes false (L seen gap) FollowsValue)
    → (before t next : Text) (x y : A) (xs : List A) → Items L before t next (x ∷ y ∷ xs) → skip (t ++ next) ≡ t ++ next → holds_several (t ++ next) ≡ true
unfolding holds_several
items_several L o p before t next x y xs z n =
    let w = z.second in
    let s : Text = z.right ++ next in
    let begins : s ≡ 44 ∷ (w.gap ++ (w.right ++ next)) =
    ap (λ u. u ++ next) w.split ∙ three w.left w.gap w.right next ∙ ap (λ u. u ++ (w.gap ++ (w.right ++ next))) w.first.0 in
    let whole : t ++ next ≡ z.left ++ (z.gap ++ s) = ap (λ u. u ++ next) z.split ∙ three z.left z.gap z.right next in
    let n' : skip (z.left ++ (z.gap ++ s)) ≡ z.left ++ (z.gap ++ s) = rw whole at n in
    let stops : FollowsValue (z.gap ++ s) = stops_gap z.gap s z.is_gap (ap ends_value begins) in
    let there : seek zero zero (t ++ next) ≡ 44 ∷ (w.gap ++ (w.right ++ next)) = ap (seek zero zero) whole
    ∙ seek-item (p [] before) z.left z.gap s x z.first z.is_gap stops n' ∙ ap (seek zero zero) begins ∙ seek-end zero 44 (w.gap ++ (w.right ++ next)) refl in
    let v = w.second in
    let item : ends_value (w.right ++ next) ≡ false =
    rw (v.split, three v.left v.gap v.right next) ((o (x ∷ []) w.gap).holds v.left (v.gap ++ (v.right ++ next)) y v.first).0 in
    ap separates there ∙ separates_item w.gap (w.right ++ next) w.is_gap item

-- Where one stands, with or without a comma, it finds none.
pub one_not_several : {A : Type 0} (L : Lang A) → Passes false L FollowsValue → (t next : Text) (a : A) → WithComma L t next a → Before 41 next
    → skip (t ++ next) ≡ t ++ next → holds_several (t ++ next) ≡ false
unfolding holds_several
one_not_several {A} L p t next a z f n =
    let s : Text = z.right ++ next in
    let whole : t ++ next ≡ z.left ++ (z.gap ++ s) = ap (λ u. u ++ next) z.split ∙ three z.left z.gap z.right next in
    let n' : skip (z.left ++ (z.gap ++ s)) ≡ z.left ++ (z.gap ++ s) = rw whole at n in
    ap (λ u. separates (seek zero zero u)) whole
    ∙ ap separates (seek-item p z.left z.gap s z.value z.first z.is_gap (comma_follows z.value z.gap z.right next a z.is_gap z.second f) n') ∙ behind z.second
  where
    behind : OptComma z.value z.right next a → separates (seek zero zero (z.right ++ next)) ≡ false
    behind (inl m) = ap (λ u. separates (seek zero zero (u ++ next))) m.0 ∙ ap separates (seek-end zero 44 next refl) ∙ ap not f
    behind (inr m) =
        let here : is_at 41 (z.right ++ next) ≡ true = rw (← z.is_gap.longest, m.0) f in
        ap separates (seek-at 41 (z.right ++ next) refl here)
        ∙ ap (λ b. b && not (is_at 41 (skip (drop 1 (z.right ++ next))))) (is_at_other 41 44 (z.right ++ next) here refl)

-- ---- by the first name

-- what a word is followed by, behind a gap, is what its reader function leads to
pub first_leads : {A B : Type 0} {r : Reader A} {L : Lang A} {M : A → Text → Lang B} (c : ℕ) → IsWordReader r L
    → ((a : A) (gap : Text) → First (λ s. is_at c s ≡ true) (M a gap)) → First (λ s. leads_to c (r s) ≡ true) (Then L M)
first_leads {r = r} c h k = record {
  holds = λ t next b z.
      let s : Text = z.right ++ next in
      ap (λ u. leads_to c (r u)) (ap (λ u. u ++ next) z.split ∙ three z.left z.gap z.right next)
      ∙ ap (leads_to c) (h.complete z.left (z.gap ++ s) z.value z.first).answer ∙ ap (is_at c) (skip-append z.gap s z.is_gap)
      ∙ (k z.value z.gap).holds z.right next b z.second;
}

-- a field is told by its name and colon
pub field_opens : {A : Type 0} (M : Text → Text → Lang A) → First (λ s. opens_field s ≡ true) (Then Name (λ n _. Then (Mark 58 done) (λ _ gap. M n gap)))
unfolding opens_field
field_opens M = first_leads 58 word_name (λ n gap. first_then (first_mark _ 58 done (λ s. refl)))

-- The reader functions of attributes a step at a time: one equation for each case, for code that reads in the same order.
use Rattle.ron_spec_grammar.specs.Data.{Data}
use Rattle.std.proofs.Common.{◌≡◌, ℕ, zero, suc, ◌<◌, ◌≤◌, Bool, true, false, cond, List, [], ◌∷◌, length, ◌++◌, refl, sym, ap, ap₂, subst, ◌∙◌, arith}
use Rattle.std.proofs.Common.{length-append, ◌+◌, ◌==◌, if◌then◌else◌}
use Rattle.ron_spec_words.specs.Characters.{Text, hash, right_parenthesis}
use Rattle.ron_spec_words.specs.Runs.{is_at}
use Rattle.ron_spec_words.specs.Gap.{LongGap, skip, gap_of}
use Rattle.ron_spec_words.specs.Reader.{Fault, bad, Got, got, failed, Reader, given, after_gap, give}
use Rattle.ron_spec_words.specs.Directly.{and_directly}
use Rattle.ron_spec_words.specs.Turns.{all_items}
use Rattle.ron_spec_words.proofs.Gaps.{length-skip, cut}
use Rattle.ron_spec_words.proofs.Exactly.{is_at_other, after_gap_at}
use Rattle.ron_spec_words.proofs.Room.{shrinks}
use Rattle.ron_spec_words.proofs.Turns.{Shrinks, after_slash, after_other, group_over, group_failed, group_last, group_not_closed, group_more}
use Rattle.ron_base.specs.Extensions.{union}
use Rattle.ron_spec_grammar.specs.Schema.{Shape}
use Rattle.ron_spec_grammar.specs.Rule.{Extensions}
use Rattle.ron_spec_grammar.specs.Reading.{read_at}
use Rattle.ron_spec_grammar.specs.Attribute.{EndsHead, StartsValue, together, extension, attribute, head_in, head, value_start, names_from}
use Rattle.ron_spec_grammar.specs.Document.{whole, behind_head, answer_document, answer_at}
use Rattle.ron_spec_grammar.proofs.Attribute.{part_name, part_attribute, attribute_long, head_sound, head_exact}

-- ---- names

abbrev an_extension : List Extensions → Text → Reader Extensions
an_extension _ _ = extension

names_shrink : Shrinks an_extension
names_shrink = record { at_most = λ seen gap t b rest e. shrinks _ _ part_name.exact.sound t b rest e }

module _ (seen : List Extensions) (before s : Text) where
  pub names_over : (u : Text) → s ≡ right_parenthesis ∷ u → names_from seen before s ≡ given (together (all_items seen [])) u
  unfolding names_from
  names_over = group_over an_extension right_parenthesis together (refl, refl, refl) names_shrink seen before s

  module _ (open_still : is_at right_parenthesis s ≡ false) where
    pub names_failed : (f : Fault) → extension s ≡ failed f → names_from seen before s ≡ failed f
    unfolding names_from
    names_failed = group_failed an_extension right_parenthesis together (refl, refl, refl) names_shrink seen before s open_still

    module _ (e : Extensions) (rest : Text) (k : extension s ≡ got e rest) where
      pub names_last : (u : Text) → skip rest ≡ right_parenthesis ∷ u → names_from seen before s ≡ given (together (all_items (e ∷ seen) [])) u
      unfolding names_from
      names_last = group_last an_extension right_parenthesis together (refl, refl, refl) names_shrink seen before s open_still e rest k

      pub names_not_closed : is_at 44 (skip rest) ≡ false → is_at right_parenthesis (skip rest) ≡ false → names_from seen before s ≡ failed bad
      unfolding names_from
      names_not_closed = group_not_closed an_extension right_parenthesis together (refl, refl, refl) names_shrink seen before s open_still e rest k

      pub names_more : (u : Text) → skip rest ≡ 44 ∷ u → names_from seen before s ≡ after_gap (names_from (e ∷ seen)) u
      unfolding names_from
      names_more = group_more an_extension right_parenthesis together (refl, refl, refl) names_shrink seen before s open_still e rest k

-- ---- heads, without the bound on its length

shorter_behind : (s : Text) (e : Extensions) (r : Text) → attribute (skip s) ≡ got e r → length r < length s
shorter_behind s e r k =
    let z = part_attribute.exact.sound (skip s) e r k in
    let long = attribute_long z.stretch r e z.spelled in
    omega (arith, ap length z.split, length-append z.stretch r, long, length-skip s)

-- two that agree on shorter texts
abbrev Agree : ℕ → ℕ → ℕ → Type 0
Agree m n bound = (x : Extensions) (r : Text) → length r < bound → head_in m x r ≡ head_in n x r

same_fuel : (m n : ℕ) (x : Extensions) (s : Text) → length s < m → length s < n → head_in m x s ≡ head_in n x s
same_fuel zero n x s l k = absurd (omega (arith, l))
same_fuel (suc m) zero x s l k = absurd (omega (arith, k))
same_fuel (suc m) (suc n) x s l k =
    go (is_at hash (skip s)) (attribute (skip s)) refl (λ y r lt. same_fuel m n y r (omega (arith, l, lt)) (omega (arith, k, lt)))
  where
    go : (b : Bool) (o : Got Extensions) → attribute (skip s) ≡ o → Agree m n (length s)
        → cond b (and_directly o (λ e. head_in m (union x e))) (got x s) ≡ cond b (and_directly o (λ e. head_in n (union x e))) (got x s)
    go true (got e r) a agree = agree (union x e) r (shorter_behind s e r a)
    go true (failed f) a agree = refl
    go false o a agree = refl

head_step : (x : Extensions) (s : Text) → head x s ≡ cond (is_at hash (skip s)) (and_directly (attribute (skip s)) (λ e. head (union x e))) (got x s)
unfolding head
head_step x s = go (is_at hash (skip s)) (attribute (skip s)) refl
  where
    go : (b : Bool) (o : Got Extensions) → attribute (skip s) ≡ o → cond b (and_directly o (λ e. head_in (length s) (union x e))) (got x s)
        ≡ cond b (and_directly o (λ e r. head_in (suc (length r)) (union x e) r)) (got x s)
    go true (got e r) a = same_fuel (length s) (suc (length r)) (union x e) r (shorter_behind s e r a) (omega arith)
    go true (failed f) a = refl
    go false o a = refl

-- ---- the start of a value

-- behind a gap, attributes and the gap behind them
abbrev pub start_behind : Extensions → Text → Reader (Extensions × Text)
start_behind x gap s = if is_at hash s then and_directly (attribute s) (λ e. value_start (union x e)) else got (x, gap) s

-- the gap at a place is passed, and then the head goes on
pub start_is : (x : Extensions) (s : Text) → value_start x s ≡ after_gap (start_behind x) s
unfolding value_start
start_is x s = ap (λ o. and_directly o (λ y. after_gap (λ gap. give (y, gap)))) (head_step x s) ∙ go (is_at 47 (skip s)) refl (is_at hash (skip s)) refl
  where
    behind : Extensions → Reader (Extensions × Text)
    behind y = after_gap (λ gap. give (y, gap))

    at_attribute : (o : Got Extensions) → and_directly (and_directly o (λ e. head (union x e))) behind ≡ and_directly o (λ e. value_start (union x e))
    at_attribute (got e r) = refl
    at_attribute (failed f) = refl

    go : (a : Bool) → is_at 47 (skip s) ≡ a → (b : Bool) → is_at hash (skip s) ≡ b
        → and_directly (cond b (and_directly (attribute (skip s)) (λ e. head (union x e))) (got x s)) behind
        ≡ cond a (failed bad) (cond b (and_directly (attribute (skip s)) (λ e. value_start (union x e))) (got (x, gap_of s) (skip s)))
    go true h true k = absurd (let n : is_at hash (skip s) ≡ false = is_at_other 47 hash (skip s) h refl in cc)
    go true h false k = after_slash (λ gap. give (x, gap)) s h
    go false h true k = at_attribute (attribute (skip s))
    go false h false k = after_other (λ gap. give (x, gap)) s h

-- a document is read from there on: at the start of the text where the gap and what is left are all of it
pub document_from : (x : Extensions) (schema : List Shape) (root limit : ℕ) (text : Text) → answer_document x schema root limit text ≡ whole
    (and_directly (value_start x text) (λ (p : Extensions × Text) rest. read_at (length p.1 + length rest == length text) p.0 schema limit false root p.1 rest))
unfolding value_start answer_at answer_document
document_from x schema root limit text = go (head x text)
  where
    q : Extensions → Text → Text → Got Data
    q y gap rest = read_at (length gap + length rest == length text) y schema limit false root gap rest

    same : (y : Extensions) (body : Text)
        → read_at (length body == length text) y schema limit false root (gap_of body) (skip body) ≡ q y (gap_of body) (skip body)
    same y body = let e : length body ≡ length (gap_of body) + length (skip body) = ap length (cut body).split ∙ length-append (gap_of body) (skip body) in
        ap (λ n. read_at (n == length text) y schema limit false root (gap_of body) (skip body)) e

    go : (o : Got Extensions) → behind_head o (λ y body. whole (after_gap (read_at (length body == length text) y schema limit false root) body))
        ≡ whole (and_directly (and_directly o (λ y. after_gap (λ gap. give (y, gap)))) (λ (p : Extensions × Text) rest. q p.0 p.1 rest))
    go (got y body) = elim (is_at 47 (skip body))
        as (λ b. whole (cond b (failed bad) (read_at (length body == length text) y schema limit false root (gap_of body) (skip body)))
        ≡ whole (and_directly {A = Extensions × Text} (cond b (failed bad) (got (y, gap_of body) (skip body)))
        (λ (p : Extensions × Text) rest. q p.0 p.1 rest))) [ true ↦ refl | false ↦ ap whole (same y body) ]
    go (failed f) = refl

-- ---- what a start leaves

-- no more than the text
pub start_no_longer : (x : Extensions) (s : Text) (p : Extensions × Text) (rest : Text) → value_start x s ≡ got p rest → length rest ≤ length s
unfolding value_start
start_no_longer x s p rest e = go (head x s) refl e
  where
    behind : (y : Extensions) (body : Text) → after_gap {A = Extensions × Text} (λ gap. give (y, gap)) body ≡ got p rest → length rest ≤ length body
    behind y body = elim (is_at 47 (skip body))
        as (λ b. cond {A = Got (Extensions × Text)} b (failed bad) (got (y, gap_of body) (skip body)) ≡ got p rest → length rest ≤ length body)
        [ true ↦ λ k. absurd (cc) | false ↦ λ k. (let same : skip body ≡ rest = cc in omega (arith, ap length same, length-skip body)) ]

    go : (o : Got Extensions) → head x s ≡ o → and_directly {B = Extensions × Text} o (λ y. after_gap (λ gap. give (y, gap))) ≡ got p rest
        → length rest ≤ length s
    go (got y body) h k = let z = head_sound x s y body h in omega (arith, behind y body k, ap length z.split, length-append z.stretch body)
    go (failed f) h k = absurd (cc)

-- where no attribute stands it is the gap alone
pub start_plain : (x : Extensions) (s : Text) (p : Extensions × Text) (rest : Text) → is_at hash (skip s) ≡ false → value_start x s ≡ got p rest → rest ≡ skip s
start_plain x s p rest n e = go (is_at 47 (skip s)) (ap (λ (b : Bool). cond (is_at 47 (skip s)) (failed bad)
    (cond b (and_directly (attribute (skip s)) (λ e. value_start (union x e))) (got (x, gap_of s) (skip s)))) (sym n) ∙ sym (start_is x s) ∙ e)
  where
    go : (b : Bool) → cond b (failed bad) (got (x, gap_of s) (skip s)) ≡ got p rest → rest ≡ skip s
    go true k = absurd (cc)
    go false k = cc

-- ---- where a value may begin

pub start_sound : (x : Extensions) (s : Text) (y : Extensions) (gap rest : Text) → value_start x s ≡ got (y, gap) rest → StartsValue x s y gap rest
unfolding value_start
start_sound x s y gap rest e = go (head x s) refl e
  where
    behind : (z : Extensions) (body : Text) → head x s ≡ got z body → (b : Bool) → is_at 47 (skip body) ≡ b
        → cond {A = Got (Extensions × Text)} b (failed bad) (got (z, gap_of body) (skip body)) ≡ got (y, gap) rest → StartsValue x s y gap rest
    behind z body h true n k = absurd (cc)
    behind z body h false n k =
        let g = cut body in
        let in_force : z ≡ y = ap (λ (o : Got (Extensions × Text)). (elim o as (λ _. Extensions) [ got p r ↦ p.0 | failed f ↦ y ])) k in
        let gap_is : gap_of body ≡ gap = ap (λ (o : Got (Extensions × Text)). (elim o as (λ _. Text) [ got p r ↦ p.1 | failed f ↦ gap ])) k in
        let rest_is : skip body ≡ rest = cc in
        let all : body ≡ gap ++ rest = g.split ∙ ap₂ (λ u v. u ++ v) gap_is rest_is in
        record {
          head_ends = subst (λ (u : Text). EndsHead x s y u) all (subst (λ (w : Extensions). EndsHead x s w body) in_force (head_sound x s z body h));
          is_gap = subst (λ (v : Text). LongGap gap v) rest_is (subst (λ (u : Text). LongGap u (skip body)) gap_is g.is_gap);
          no_slash = ap (is_at 47) (sym rest_is) ∙ n;
        }

    go : (o : Got Extensions) → head x s ≡ o → and_directly {B = Extensions × Text} o (λ z. after_gap (λ gap. give (z, gap))) ≡ got (y, gap) rest
        → StartsValue x s y gap rest
    go (got z body) h k = behind z body h (is_at 47 (skip body)) refl k
    go (failed f) h k = absurd (cc)

pub start_exact : (x : Extensions) (s : Text) (y : Extensions) (gap rest : Text) → StartsValue x s y gap rest → value_start x s ≡ got (y, gap) rest
unfolding value_start
start_exact x s y gap rest h =
    ap (λ o. and_directly o (λ z. after_gap (λ gap. give (z, gap)))) (head_exact x s y (gap ++ rest) h.head_ends)
    ∙ after_gap_at (λ g. give (y, g)) gap rest h.is_gap h.no_slash

-- Words by a schema and words without one, over one text, are the same word: for `Agreement.Named`.
use Rattle.std.proofs.Common.{◌≡◌, ℕ, Bool, true, false, not, [], ◌∷◌, ◌++◌, inl, inr, Some, None, cond, refl, sym, ap, subst, ◌∙◌, eqb-true}
use Rattle.std.specs.List.{list_any}
use lib.Utf8.{scalars}
use Rattle.ron_spec_words.specs.Characters.{Text}
use Rattle.ron_spec_words.specs.Runs.{begins, is_at, same_text}
use Rattle.ron_spec_words.specs.Gap.{LongGap, skip, ends_value}
use Rattle.ron_spec_words.specs.Lang.{Lang, Run, Then}
use Rattle.ron_spec_words.specs.Exact.{FollowsValue}
use Rattle.ron_spec_words.specs.Directly.{FixedWord}
use Rattle.ron_spec_words.specs.Name.{Name, name, Named, UntypedName, value_words, is_name_mark}
use Rattle.ron_spec_words.proofs.Gaps.{skip-append}
use Rattle.ron_spec_words.proofs.Words.{First}
use Rattle.ron_spec_words.proofs.Classes.{Solid, solid_class}
use Rattle.ron_spec_words.proofs.Names.{word_name}
use Rattle.ron_spec_words.proofs.Exactly.{three}
use Rattle.ron_spec_grammar.proofs.Finding.{same_is}
use Rattle.ron_spec_grammar.proofs.Values.Forms.{IsValueWord}
use Rattle.ron_spec_grammar.proofs.Agreement.Agree.{Agree, got_both}

-- ---- what may follow a name that is required

abbrev pub Ends : Text → Type 0
Ends next = begins is_name_mark next ≡ false

mark_solid : (c : ℕ) (s : Text) → is_name_mark c ≡ true → Solid (c ∷ s)
mark_solid c s e = solid_class is_name_mark (record {
  stop = (refl, refl, refl, refl, refl);
  range = (refl, (refl, (refl, (refl, (refl, tt)))));
  blank = (refl, refl, refl, refl, refl, refl);
  slash = refl;
  hash = refl;
}) c s e

-- no such mark begins behind a gap, and none begins here
pub ends_behind : (next : Text) → Ends (skip next) → Ends next
ends_behind [] e = refl
ends_behind (c ∷ s) e = go (is_name_mark c) refl
  where
    go : (b : Bool) → is_name_mark c ≡ b → b ≡ false
    go false k = refl
    go true k = sym k ∙ ap (begins is_name_mark) (sym (mark_solid c s k).1) ∙ e

stop_ends : (s : Text) → ends_value s ≡ true → Ends s
stop_ends [] e = refl
stop_ends (c ∷ s) e = go (is_name_mark c) refl
  where
    go : (b : Bool) → is_name_mark c ≡ b → b ≡ false
    go false k = refl
    go true k = absurd (let x : true ≡ false = sym e ∙ (mark_solid c s k).0 in cc)

pub value_ends : (next : Text) → FollowsValue next → Ends next
value_ends next f = ends_behind next (stop_ends (skip next) f)

bracket_at : (s : Text) → is_at 40 s ≡ true → (Ends s) × (ends_value s ≡ false)
bracket_at [] e = absurd (cc)
bracket_at (c ∷ s) e = let same : c ≡ 40 = eqb-true c 40 e in rw same (refl, refl)

pub bracket_ends : (gap s : Text) → LongGap gap s → is_at 40 s ≡ true → Ends (gap ++ s)
bracket_ends gap s g e = ends_behind (gap ++ s) (subst Ends (sym (skip-append gap s g)) (bracket_at s e).0)

-- ---- names and words are names

pub untyped_is_name : (t next n : Text) → UntypedName t next n → Ends next → Name t next n
untyped_is_name t next n (inl z) e = inl z
untyped_is_name t next n (inr z) e =
    inr (z.spelled.0, record { spelled = subst (λ v. Run _ _ t next v) (go (list_any (same_text z.value) value_words) z.meant) z.spelled.1; other = e })
  where
    go : (b : Bool) → cond b None (Some z.value) ≡ Some n → z.value ≡ n
    go true k = absurd (cc)
    go false k = cc

pub fixed_is_name : {A : Type 0} (w t next : Text) (a b : A) → IsValueWord w → FixedWord w a t next b → Ends next → Name t next w
fixed_is_name w t next a b h z e = rw z.same (inr (ap not (h.1 next), record { spelled = record { same = refl; every = h.3; longest = z.ends }; other = e }))

pub named_is : (n t next m : Text) → Named n t next m → Name t next n × (m ≡ n)
named_is n t next m z = go (same_text z.value n) refl z.meant
  where
    go : (b : Bool) → same_text z.value n ≡ b → cond b (Some n) None ≡ Some m → Name t next n × (m ≡ n)
    go true k q = (subst (Name t next) (same_is z.value n k) z.spelled, cc)
    go false k q = absurd (cc)

-- ---- they agree

one_name : (t next u other m n : Text) → t ++ next ≡ u ++ other → Name t next m → Name u other n → (next ≡ other) × (m ≡ n)
one_name t next u other m n e z y = got_both m n next other (sym (word_name.complete t next m z).answer ∙ ap name e ∙ (word_name.complete u other n y).answer)

pub agree_names : (n : Text) → Agree (Named n) UntypedName Ends (λ m v. m ≡ n)
agree_names n = record {
  at = λ t next u other m v e _ _ z _ y g. (let p = named_is n t next m z in ((one_name t next u other n v e p.0 (untyped_is_name u other v y g)).0, p.1));
}

pub agree_fixed : {A : Type 0} (n w : Text) (a : A) → IsValueWord w → Agree (Named n) (FixedWord w a) Ends (λ m b. (m ≡ n) × (a ≡ b))
agree_fixed n w a h = record {
  at = λ t next u other m b e _ _ z _ y g.
      (let p = named_is n t next m z in ((one_name t next u other n w e p.0 (fixed_is_name w u other a b h y g)).0, (p.1, y.value)));
}

pub agree_ending : {A B : Type 0} {L : Lang A} {M : Lang B} {R : A → B → Type 0} → Agree L M Ends R → Agree L M FollowsValue R
agree_ending h = record { at = λ t next u other a b e s n z f y g. h.at t next u other a b e s n z (value_ends next f) y (value_ends other g) }

no_bracket : (next gap s : Text) → FollowsValue next → next ≡ gap ++ s → LongGap gap s → is_at 40 s ≡ true → ⊥
no_bracket next gap s f e g k = let x : true ≡ false = sym f ∙ ap ends_value (ap skip e ∙ skip-append gap s g) ∙ (bracket_at s k).1 in cc

-- a word alone, and a word before a bracket
pub alone_bracket : {A B C : Type 0} {L : Lang A} {W : Lang B} {G : B → Text → Lang C} {S : A → B → Type 0} {R : A → C → Type 0} → Agree L W Ends S
    → ((b : B) (gap : Text) → First (λ s. is_at 40 s ≡ true) (G b gap)) → Agree L (Then W G) FollowsValue R
alone_bracket h k = record {
  at = λ t next u other a c e s n z f y g.
      let o = (k y.value y.gap).holds y.right other c y.second in
      let p = h.at t next y.left (y.gap ++ (y.right ++ other)) a y.value (e ∙ ap (λ v. v ++ other) y.split ∙ three y.left y.gap y.right other) s n z
      (value_ends next f) y.first (bracket_ends y.gap (y.right ++ other) y.is_gap o) in
      absurd (no_bracket next y.gap (y.right ++ other) f p.0 y.is_gap o);
}

pub bracket_alone : {A B C : Type 0} {L : Lang A} {W : Lang B} {G : A → Text → Lang C} {S : A → B → Type 0} {R : C → B → Type 0} → Agree L W Ends S
    → ((a : A) (gap : Text) → First (λ s. is_at 40 s ≡ true) (G a gap)) → Agree (Then L G) W FollowsValue R
bracket_alone h k = record {
  at = λ t next u other c b e s n z f y g.
      let o = (k z.value z.gap).holds z.right next c z.second in
      let w : t ++ next ≡ z.left ++ (z.gap ++ (z.right ++ next)) = ap (λ v. v ++ next) z.split ∙ three z.left z.gap z.right next in
      let p = h.at z.left (z.gap ++ (z.right ++ next)) u other z.value b (sym w ∙ e) (subst (λ v. scalars v ≡ true) w s) (subst (λ v. skip v ≡ v) w n) z.first
      (bracket_ends z.gap (z.right ++ next) z.is_gap o) y (value_ends other g) in
      absurd (no_bracket other z.gap (z.right ++ next) g (sym p.0) z.is_gap o);
}

-- both before a bracket
pub first_follows : {B : Type 0} {M : Lang B} → First (λ s. is_at 40 s ≡ true) M → (gap right next : Text) (b : B) → LongGap gap (right ++ next)
    → M right next b → FollowsValue next → Ends (gap ++ (right ++ next))
first_follows h gap right next b g z f = bracket_ends gap (right ++ next) g (h.holds right next b z)

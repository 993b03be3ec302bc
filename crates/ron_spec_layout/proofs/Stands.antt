-- Texts that stand for what a language spells, put together: one lemma for each way to make a language, for every layout.
use Rattle.std.proofs.Common.{◌≡◌, ℕ, ◌≤◌, Bool, true, false, [], ◌∷◌, ◌++◌, inr, Option, Some, refl, sym, ap, subst, ◌∙◌, append_assoc, append-nil}
use Rattle.ron_spec_words.specs.Characters.{Text, is_blank}
use Rattle.ron_spec_words.specs.Gap.{Gap, none, LongGap, skip, is_delimiter}
use Rattle.ron_spec_words.specs.Lang.{Lang, done, Mark, Then, Means, WithComma, Group, Needs}
use Rattle.ron_spec_words.proofs.Gaps.{skip-other}
use Rattle.ron_spec_words.proofs.Exactly.{three, stops_no_slash}
use Rattle.ron_spec_grammar.specs.Data.{Data}
use Rattle.ron_spec_grammar.specs.Rule.{Plain}
use Rattle.ron_spec_layout.specs.Stand.{StandsFirst, Stands, Ends, MayFollow}
use Rattle.ron_spec_grammar.proofs.Raw.Quiet.{delimiter_ends}

-- ---- what may follow

pub ends_delimiter : (c : ℕ) (next : Text) → is_delimiter c ≡ true → is_blank c ≡ false → Ends (c ∷ next)
ends_delimiter c next h b = (delimiter_ends c h, skip-other c next b (stops_no_slash (c ∷ next) h), h)

pub may_follow_ends : (bare : Bool) (next : Text) → MayFollow bare next → Ends next
may_follow_ends false next f = f
may_follow_ends true next f = rw f.1 (ends_delimiter 41 f.0 refl refl)

-- ---- the same text for another language

pub stands_as : {A B : Type 0} {L : Text → Lang A} {M : Text → Lang B} {text next : Text} {a : A} (b : B) → Stands L text next a
    → ((before t n : Text) → L before t n a → M before t n b) → Stands M text next b
stands_as b h f = record {
  before = h.before;
  text_from = h.text_from;
  split = h.split;
  is_before = h.is_before;
  from = record {
    stretch = h.from.stretch;
    after = h.from.after;
    split = h.from.split;
    solid = h.from.solid;
    spelled = f h.before h.from.stretch (h.from.after ++ _) h.from.spelled;
    is_after = h.from.is_after;
  };
}

pub stands_means : {A B : Type 0} {L : Text → Lang A} {text next : Text} {a : A} (b : B) (f : A → Option B) → f a ≡ Some b → Stands L text next a
    → Stands (λ before. Means (L before) f) text next b
stands_means b f e h = stands_as b h (λ before t n z. record { value = _; spelled = z; meant = e })

pub stands_needs : {A : Type 0} {L : Text → Lang A} {text next : Text} {a : A} {k room : ℕ} → k ≤ room → Stands L text next a
    → Stands (λ before. Needs k room (L before)) text next a
stands_needs le h = stands_as _ h (λ before t n z. (le, z))

-- no gap before it
pub at_once : {A : Type 0} {L : Text → Lang A} {text next : Text} {a : A} → StandsFirst (L []) text next a → Stands L text next a
at_once h = record { before = []; text_from = _; split = refl; is_before = none; from = h }

-- and none behind it
pub whole : {A : Type 0} {L : Lang A} {text next : Text} {a : A} → skip (text ++ next) ≡ text ++ next → skip next ≡ next → L text next a
    → StandsFirst L text next a
whole s n h = record { stretch = _; after = []; split = sym (append-nil _); solid = s; spelled = h; is_after = record { is_gap = none; longest = n } }

-- ---- one and then the other

module _ {A B : Type 0} {L : Lang A} {M : A → Text → Lang B} (s t next : Text) (a : A) {b : B} where
  -- behind the gap that the first ends with
  pub then_first : StandsFirst L s (t ++ next) a → ((gap : Text) → StandsFirst (M a gap) t next b) → StandsFirst (Then L M) (s ++ t) next b
  then_first h k = let m = k h.after in record {
    stretch = s ++ m.stretch;
    after = m.after;
    split = ap (λ u. s ++ u) m.split ∙ sym (append_assoc s m.stretch m.after);
    solid = rw (append_assoc s t next) h.solid;
    spelled = record {
      value = a;
      left = h.stretch;
      gap = h.after;
      right = m.stretch;
      split = ap (λ u. u ++ m.stretch) h.split ∙ append_assoc h.stretch h.after m.stretch;
      first = at (sym (again m)) h.spelled;
      is_gap = gap_at (sym (again m)) h.is_after;
      second = m.spelled;
    };
    is_after = m.is_after;
  }
    where
      again : {N : Lang B} (m : StandsFirst N t next b) → m.stretch ++ (m.after ++ next) ≡ t ++ next
      again m = sym (append_assoc m.stretch m.after next) ∙ ap (λ u. u ++ next) (sym m.split)

      at : {u v : Text} → u ≡ v → L h.stretch (h.after ++ u) a → L h.stretch (h.after ++ v) a
      at e z = rw (← e) z

      gap_at : {u v : Text} → u ≡ v → LongGap h.after u → LongGap h.after v
      gap_at e z = rw (← e) z

  -- behind a word or a mark, where the second may begin with a gap
  pub then_stands : L s (t ++ next) a → skip (s ++ (t ++ next)) ≡ s ++ (t ++ next) → Stands (M a) t next b → StandsFirst (Then L M) (s ++ t) next b
  then_stands h n k = let m = k.from in record {
    stretch = s ++ (k.before ++ m.stretch);
    after = m.after;
    split = ap (λ u. s ++ u) (k.split ∙ ap (λ u. k.before ++ u) m.split) ∙ sym (three s k.before m.stretch m.after);
    solid = rw (append_assoc s t next) n;
    spelled = record {
      value = a;
      left = s;
      gap = k.before;
      right = m.stretch;
      split = refl;
      first = at (sym again) h;
      is_gap = record { is_gap = gap_at (sym (inside m)) k.is_before; longest = rw (inside m) m.solid };
      second = m.spelled;
    };
    is_after = m.is_after;
  }
    where
      inside : {N : Lang B} (m : StandsFirst N k.text_from next b) → m.stretch ++ (m.after ++ next) ≡ k.text_from ++ next
      inside m = sym (append_assoc m.stretch m.after next) ∙ ap (λ u. u ++ next) (sym m.split)

      again : k.before ++ (k.from.stretch ++ (k.from.after ++ next)) ≡ t ++ next
      again = ap (λ u. k.before ++ u) (inside k.from) ∙ sym (append_assoc k.before k.text_from next) ∙ ap (λ u. u ++ next) (sym k.split)

      at : {u v : Text} → u ≡ v → L s u a → L s v a
      at e z = rw (← e) z

      gap_at : {u v : Text} → u ≡ v → Gap k.before u → Gap k.before v
      gap_at e z = rw (← e) z

-- likewise where a gap stands before the first
pub stands_then : {A B : Type 0} {L : Text → Lang A} {M : A → Text → Lang B} (s t next : Text) {a : A} {b : B} → Stands L s (t ++ next) a
    → ((gap : Text) → StandsFirst (M a gap) t next b) → Stands (λ before. Then (L before) M) (s ++ t) next b
stands_then s t next h k = record {
  before = h.before;
  text_from = h.text_from ++ t;
  split = ap (λ u. u ++ t) h.split ∙ append_assoc h.before h.text_from t;
  is_before = rw (append_assoc h.text_from t next) h.is_before;
  from = then_first h.text_from t next _ h.from k;
}

pub mark_then : {B : Type 0} {M : Text → Lang B} (c : ℕ) (t next : Text) {b : B} → skip (c ∷ (t ++ next)) ≡ c ∷ (t ++ next) → Stands M t next b
    → StandsFirst (Then (Mark c done) (λ _ gap. M gap)) (c ∷ t) next b
mark_then c t next s h = then_stands (c ∷ []) t next done (refl, refl) s h

-- ---- brackets and commas

-- between brackets
pub group : {A : Type 0} {L : Text → Lang A} (o c : ℕ) (t next : Text) {a : A} → ((s : Text) → skip (o ∷ s) ≡ o ∷ s) → ((s : Text) → skip (c ∷ s) ≡ c ∷ s)
    → skip next ≡ next → Stands L t (c ∷ next) a → StandsFirst (Group o c L) (o ∷ (t ++ (c ∷ []))) next a
group o c t next so sc n h = mark_then o (t ++ (c ∷ [])) next (so _) (stands_then t (c ∷ []) next h (λ _. whole (sc next) n (refl, refl)))

-- perhaps the one comma behind it: here none
pub comma_stands : {A : Type 0} {L : Text → Lang A} (t rest : Text) {a : A} → Stands L t (41 ∷ rest) a → Stands (λ before. WithComma (L before)) t (41 ∷ rest) a
comma_stands t rest h = record { before = h.before; text_from = h.text_from; split = h.split; is_before = h.is_before; from = comma h.from }
  where
    comma : {A : Type 0} {L : Lang A} {t rest : Text} {a : A} → StandsFirst L t (41 ∷ rest) a → StandsFirst (WithComma L) t (41 ∷ rest) a
    comma {t = t} {rest = rest} h = whole h.solid (skip-other 41 rest refl refl) (record {
      value = _;
      left = h.stretch;
      gap = h.after;
      right = [];
      split = h.split ∙ ap (λ t. h.stretch ++ t) (sym (append-nil h.after));
      first = h.spelled;
      is_gap = h.is_after;
      second = inr (refl, refl);
    })

-- what has no bare form of its own
pub plain_stands : {L : Text → Lang Data} {t next : Text} {d : Data} (bare : Bool) → MayFollow bare next → Stands L t next d
    → Stands (λ before. Plain bare (L before)) t next d
plain_stands false f h = h
plain_stands {L = L} {t = t} {d = d} true f h =
    subst (λ n. Stands (λ before. WithComma (L before)) t n d) (sym f.1) (comma_stands t f.0 (subst (λ n. Stands L t n d) f.1 h))

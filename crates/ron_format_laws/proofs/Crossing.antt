-- The head of a text is gone over word by word, up to the body: that last commas come and go in the body alone is that they do where fewer characters are left
-- than the body has.
use Rattle.std.proofs.Common.{◌≡◌, ◌≤◌, ◌<◌, ℕ, Bool, true, false, ◌==◌, if◌then◌else◌, nat_lt, List, [], ◌∷◌, ◌++◌, length, Some, Option, inl, inr, refl, sym}
use Rattle.std.proofs.Common.{ap, subst, ◌∙◌, arith, codes, length-append, lt-ltb, eq-eqb, eqb-true}
use Rattle.unicode_ident.proofs.Computing.{unicode_ident}
use Rattle.ron_spec_words.specs.Characters.{Text, comma, equals_sign, exclamation_mark, hash, left_bracket, left_parenthesis, right_bracket, right_parenthesis}
use Rattle.ron_spec_words.specs.Runs.{begins}
use Rattle.ron_spec_words.specs.Gap.{skip}
use Rattle.ron_spec_words.specs.Lang.{Lang, Done, done, Empty, Mark, Then, Means, Or, At, Tail, Items}
use Rattle.ron_spec_words.specs.Name.{Name}
use Rattle.ron_spec_words.specs.Directly.{FixedWord}
use Rattle.ron_spec_words.specs.Scan.{token}
use Rattle.ron_spec_words.proofs.Gaps.{skip-append}
use Rattle.ron_spec_words.proofs.Words.{First}
use Rattle.ron_spec_words.proofs.Exactly.{three, first_mark}
use Rattle.ron_spec_words.proofs.LiteralStarts.{first_string}
use Rattle.ron_spec_words.proofs.Tokens.{token_string}
use Rattle.ron_spec_words.proofs.TokenRuns.{is_plain_run, token_name, token_fixed}
use Rattle.ron_spec_words.proofs.WordsPass.{plain_words}
use Rattle.ron_base.specs.Extensions.{extension_of_name}
use Rattle.ron_spec_grammar.specs.Rule.{Extensions}
use Rattle.ron_spec_grammar.specs.Attribute.{Enable, Ignored, Attribute, Head}
use Rattle.ron_format_words.specs.Alike.{is_mark, is_solid, Before, a_word, mark_before, Gapped, nowhere, Step, plain, added, dropped, Alike, SameWords}
use Rattle.ron_format_words.specs.Alike as alike
use Rattle.ron_format_words.specs.Places.{Place, in_head, in_attribute, place_behind, commas_in, AlikeFrom, ended, mark, word, SameText}
use Rattle.ron_format_words.proofs.Steps.{solid_no_mark}
use Rattle.ron_format_words.proofs.Near.{Opening}
use Rattle.ron_format_words.proofs.Closed.{no_comma}
use Rattle.ron_format_laws.proofs.Trees.{name_opening}

-- `#`, `!` and `=` are tokens by themselves
pub alone : ((s : Text) → token (hash ∷ s) ≡ Some s) × ((s : Text) → token (exclamation_mark ∷ s) ≡ Some s) × ((s : Text) → token (equals_sign ∷ s) ≡ Some s)
unfolding token unicode_ident
alone = (λ s. refl, λ s. refl, λ s. refl)

-- fewer than n characters are left
abbrev pub shorter : ℕ → Text → Bool
shorter n rest = nat_lt (length rest) n

-- ---- from a place in the body on, each comma comes or goes there

behind_gap : {s : Text} (gap rest : Text) → s ≡ gap ++ rest → length rest ≤ length s
behind_gap gap rest e = omega (arith, ap length e, length-append gap rest)

step_left : {k : Text → Bool} {b : Before} {s u rest other : Text} → Step k b s u rest other → length rest ≤ length s
step_left {rest = rest} (plain x) = behind_gap x.gap rest x.split
step_left {rest = rest} (added c i b x y) = behind_gap x.gap rest x.split
step_left {rest = rest} (dropped c i b x y) = omega (arith, ap length x.split, length-append x.gap (comma ∷ (x.second ++ rest)), length-append x.second rest)

step_shorter : {k : Text → Bool} {b : Before} {s u rest other : Text} (n : ℕ) → length s < n → Step k b s u rest other → Step (shorter n) b s u rest other
step_shorter n lt (plain x) = plain x
step_shorter {k} {b} {s} {u} {rest} {other} n lt (added c i e x y) = added (lt-ltb (length rest) n (omega (arith, lt, behind_gap x.gap rest x.split))) i e x y
step_shorter {k} {b} {s} {u} {rest} {other} n lt (dropped c i e x y) =
    dropped (lt-ltb (length rest) n (omega (arith, lt, step_left {k = k} {b = b} {u = u} {other = other} (dropped c i e x y)))) i e x y

pub all_shorter : (n : ℕ) {p : Place} {s v : Text} → length s ≤ n → AlikeFrom p s v → Alike (shorter n) s v
all_shorter n le (ended p) = alike.ended
all_shorter n le (mark p c s u rest other m g r) =
    alike.mark c s u rest other m (step_shorter n (omega (arith, le)) g) (all_shorter n (omega (arith, le, step_left g)) r)
all_shorter n le (word p c t s u rest other h e f g r) =
    let lt : length s < n = omega (arith, le, length-append t s) in
    alike.word c t s u rest other h e f (step_shorter n lt g) (all_shorter n (omega (arith, lt, step_left g)) r)

-- ---- from place to place

-- What is alike from the place on is alike where commas come and go with fewer than n characters left.
abbrev pub Goes : ℕ → Place → Text → Type 0
Goes n p s = (v : Text) → AlikeFrom p s v → Alike (shorter n) s v

-- what the language spells leads from the one place to the other
pub record Crosses {A : Type 0} (n : ℕ) (p q : Place) (L : Lang A) : Type 0 where
  pub over : (t next : Text) (a : A) → L t next a → skip (t ++ next) ≡ t ++ next → Goes n q (skip next) → Goes n p (t ++ next)

module _ (n : ℕ) where
  -- a gap, and what stands behind it
  next_goes : {q : Place} {b : Before} {next u rest other : Text} → Goes n q (skip next) → Gapped b next u rest other → AlikeFrom q rest other
      → Alike (shorter n) rest other
  next_goes {q = q} {next = next} {rest = rest} {other = other} k x r =
      let same : skip next ≡ rest = ap skip x.split ∙ skip-append x.gap rest x.is_gap in
      subst (λ y. Alike (shorter n) y other) same (k other (subst (λ y. AlikeFrom q y other) (sym same) r))

  mark_goes : {p q : Place} (c : ℕ) (next : Text) → is_mark c ≡ true → place_behind p c ≡ q → commas_in q ≡ nowhere → Goes n q (skip next) → Goes n p (c ∷ next)
  mark_goes {p} {q} c next m e none k v (mark _ _ _ u rest other h g r) =
      let x = no_comma (subst (λ y. Step y (mark_before c) next u rest other) (ap commas_in e ∙ none) g) in
      alike.mark c next u rest other h (plain x) (next_goes k x (subst (λ y. AlikeFrom y rest other) e r))
  mark_goes {p} {q} c next m e none k v (word _ _ t s u rest other h a b g r) = absurd (let y = solid_no_mark c h in cc)

  word_goes : {p q : Place} (x next : Text) → Opening x → token x ≡ Some next
      → ((c : ℕ) → begins (λ d. d == c) x ≡ true → is_solid c ≡ true → place_behind p c ≡ q) → commas_in q ≡ nowhere → Goes n q (skip next) → Goes n p x
  word_goes x next o a e none k v (ended p) = absurd (cc)
  word_goes x next o a e none k v (mark p c s u rest other m g r) = absurd (let y = solid_no_mark c o in cc)
  word_goes {q = q} _ next o a e none k v (word p c t s u rest other h b f g r) =
      let same : next ≡ s = cc in
      let e' : place_behind p c ≡ q = e c (eq-eqb c c refl) h in
      let x = no_comma (subst (λ y. Step y a_word s u rest other) (ap commas_in e' ∙ none) g) in
      alike.word c t s u rest other h b f (plain x) (next_goes (subst (λ y. Goes n q (skip y)) same k) x (subst (λ y. AlikeFrom y rest other) e' r))

  -- ---- languages

  mark_crosses : {A : Type 0} {p q : Place} (c : ℕ) (a : A) → is_mark c ≡ true → place_behind p c ≡ q → commas_in q ≡ nowhere → Crosses n p q (Mark c a)
  mark_crosses {p = p} c a m e none = record { over = λ t next b z l k. subst (λ y. Goes n p (y ++ next)) (sym z.0) (mark_goes c next m e none k) }

  -- in an attribute, what is one token
  word_crosses : {A : Type 0} {L : Lang A} → First Opening L → ((t next : Text) (a : A) → L t next a → token (t ++ next) ≡ Some next)
      → Crosses n in_attribute in_attribute L
  word_crosses o h = record { over = λ t next a z l k. word_goes (t ++ next) next (o.holds t next a z) (h t next a z) (λ c e s. stays c s) refl k }
    where
      stays : (c : ℕ) → is_solid c ≡ true → place_behind in_attribute c ≡ in_attribute
      stays c s = go (c == right_bracket) refl
        where
          go : (b : Bool) → (c == right_bracket) ≡ b → (if b then in_head else in_attribute) ≡ in_attribute
          go false e = refl
          go true e = absurd (let same = eqb-true c right_bracket e in let y : is_solid right_bracket ≡ true = subst (λ d. is_solid d ≡ true) same s in cc)

  hash_crosses : Crosses n in_head in_attribute (Mark hash done)
  hash_crosses = record {
    over = λ t next b z l k. subst (λ y. Goes n in_head (y ++ next)) (sym z.0) (word_goes (hash ∷ next) next refl (alone.0 next) (λ c e s. at_hash c e) refl k);
  }
    where
      at_hash : (c : ℕ) → (hash == c) ≡ true → place_behind in_head c ≡ in_attribute
      at_hash c e = let same = eqb-true hash c e in subst (λ d. place_behind in_head d ≡ in_attribute) same refl

  empty_crosses : {A : Type 0} {p : Place} (a : A) → Crosses n p p (Empty a)
  empty_crosses {p = p} a = record { over = λ t next b z l k. subst (Goes n p) l (subst (λ y. Goes n p (skip (y ++ next))) (sym z.0) k) }

  means_crosses : {A B : Type 0} {p q : Place} {L : Lang A} {f : A → Option B} → Crosses n p q L → Crosses n p q (Means L f)
  means_crosses h = record { over = λ t next b z l k. h.over t next z.value z.spelled l k }

  or_crosses : {A : Type 0} {p q : Place} {L M : Lang A} → Crosses n p q L → Crosses n p q M → Crosses n p q (Or L M)
  or_crosses {A} {p} {q} {L} {M} h k = record { over = both }
    where
      both : (t next : Text) (a : A) → Or L M t next a → skip (t ++ next) ≡ t ++ next → Goes n q (skip next) → Goes n p (t ++ next)
      both t next a (inl z) l g = h.over t next a z l g
      both t next a (inr z) l g = k.over t next a z l g

  then_crosses : {A B : Type 0} {p q r : Place} {L : Lang A} {M : A → Text → Lang B} → Crosses n p q L → ((a : A) (gap : Text) → Crosses n q r (M a gap))
      → Crosses n p r (Then L M)
  then_crosses {p = p} {q = q} h k = record {
    over = λ t next b z l g.
        let behind : Text = z.right ++ next in
        let whole : t ++ next ≡ z.left ++ (z.gap ++ behind) = ap (λ y. y ++ next) z.split ∙ three z.left z.gap z.right next in
        let second : Goes n q behind = (k z.value z.gap).over z.right next b z.second z.is_gap.longest g in
        let l' : skip (z.left ++ (z.gap ++ behind)) ≡ z.left ++ (z.gap ++ behind) = ap skip (sym whole) ∙ l ∙ whole in
        subst (Goes n p) (sym whole) (h.over z.left (z.gap ++ behind) z.value z.first l' (subst (Goes n q) (sym (skip-append z.gap behind z.is_gap)) second));
  }

  module _ {A : Type 0} (L : List A → Text → Lang A) (h : (seen : List A) (gap : Text) → Crosses n in_attribute in_attribute (L seen gap)) where
    comma_crosses : Crosses n in_attribute in_attribute (Mark comma done)
    comma_crosses = mark_crosses comma done refl refl refl

    tail_crosses : (seen xs : List A) → Crosses {A = Done} n in_attribute in_attribute (λ t next _. Tail L seen t next xs)
    tail_crosses seen [] = record {
      over = λ t next u z l g. (or_crosses (empty_crosses done) (then_crosses comma_crosses (λ _ _. empty_crosses done))).over t next done z l g;
    }
    tail_crosses seen (a ∷ xs) = record {
      over = λ t next u z l g.
          (then_crosses comma_crosses (λ _ gap. then_crosses {L = At (L seen gap) a} (record { over = λ t next _ z l g. (h seen gap).over t next a z l g })
          (λ _ _. tail_crosses (a ∷ seen) xs))).over t next done z l g;
    }

    items_over : (before : Text) (xs : List A) → Crosses {A = Done} n in_attribute in_attribute (λ t next _. Items L before t next xs)
    items_over before [] = record { over = λ t next u z l g. (empty_crosses done).over t next done (z, refl) l g }
    items_over before (a ∷ xs) = record {
      over = λ t next u z l g. (then_crosses {L = At (L [] before) a} (record { over = λ t next _ z l g. (h [] before).over t next a z l g })
          (λ _ _. tail_crosses (a ∷ []) xs)).over t next done z l g;
    }

    items_cross : (before : Text) → Crosses n in_attribute in_attribute (Items L before)
    items_cross before = record { over = λ t next xs z l g. (items_over before xs).over t next done z l g }

  -- ---- attributes

  fixed_crosses : (w : Text) → is_plain_run w ≡ true → ((next : Text) → Opening (w ++ next)) → Crosses n in_attribute in_attribute (FixedWord w done)
  fixed_crosses w e o =
      word_crosses (record { holds = λ t next u z. subst (λ y. Opening (y ++ next)) (sym z.same) (o next) }) (λ t next u z. token_fixed w done e t next u z)

  one_crosses : (c : ℕ) → is_solid c ≡ true → ((s : Text) → token (c ∷ s) ≡ Some s) → Crosses n in_attribute in_attribute (Mark c done)
  one_crosses c e k = word_crosses (first_mark Opening c done (λ s. e)) (λ t next u z. subst (λ y. token (y ++ next) ≡ Some next) (sym z.0) (k next))

  enable_crosses : Crosses n in_attribute in_attribute Enable
  enable_crosses = then_crosses (fixed_crosses (codes "enable") plain_words.4 (λ s. refl))
      (λ _ _. then_crosses (mark_crosses left_parenthesis done refl refl refl)
      (λ _ gap. then_crosses (means_crosses
      (items_cross (λ _ _. Means Name extension_of_name) (λ _ _. means_crosses (word_crosses name_opening (λ t next a z. token_name t next a z))) gap))
      (λ a _. mark_crosses right_parenthesis a refl refl refl)))

  ignored_crosses : Crosses n in_attribute in_attribute Ignored
  ignored_crosses =
      then_crosses (or_crosses (fixed_crosses (codes "type") plain_words.5 (λ s. refl)) (fixed_crosses (codes "schema") plain_words.6 (λ s. refl)))
      (λ _ _. then_crosses (one_crosses equals_sign refl alone.2)
      (λ _ _. means_crosses (word_crosses (first_string Opening (λ s. refl) (λ s. refl)) (λ t next a z. token_string t next a z))))

  attribute_crosses : Crosses n in_head in_head Attribute
  attribute_crosses = then_crosses hash_crosses
      (λ _ _. then_crosses (one_crosses exclamation_mark refl alone.1)
      (λ _ _. then_crosses (mark_crosses left_bracket done refl refl refl)
      (λ _ _. then_crosses (or_crosses enable_crosses ignored_crosses)
      (λ a _. mark_crosses right_bracket a refl refl refl))))

  head_crosses : (es : List Extensions) (t body : Text) → Head es t body → Goes n in_head (skip body) → Goes n in_head (skip (t ++ body))
  head_crosses [] t body z g = subst (λ y. Goes n in_head (skip (y ++ body))) (sym z) g
  head_crosses (e ∷ es) t body z g =
      let behind : Text = z.rest ++ body in
      let whole : t ++ body ≡ z.gap ++ (z.attribute ++ behind) = ap (λ y. y ++ body) z.split ∙ three z.gap z.attribute z.rest body in
      let at : skip (t ++ body) ≡ z.attribute ++ behind = ap skip whole ∙ skip-append z.gap (z.attribute ++ behind) z.is_gap in
      subst (Goes n in_head) (sym at) (attribute_crosses.over z.attribute behind e z.spelled z.is_gap.longest (head_crosses es z.rest body z.more g))

-- ---- whole texts

-- behind the head of a text of the same words commas come and go where less is left than the body
pub words_of : (s u : Text) (es : List Extensions) (head body : Text) → s ≡ head ++ body → Head es head body → SameText s u
    → SameWords (shorter (length (skip body))) s u
words_of s u es head body e h x =
    let n : ℕ = length (skip body) in
    let at : skip (head ++ body) ≡ x.rest = ap skip (sym e ∙ x.gapped.split) ∙ skip-append x.gapped.gap x.rest x.gapped.is_gap in
    let goes : Goes n in_head (skip (head ++ body)) = head_crosses n es head body h (λ v r. all_shorter n (omega arith) r) in
    record {
      rest = x.rest;
      other = x.other;
      gapped = x.gapped;
      alike = subst (λ y. Alike (shorter n) y x.other) at (goes x.other (subst (λ y. AlikeFrom in_head y x.other) (sym at) x.alike));
    }

-- Announcements are a head that announces what a configuration adds to the defaults.
use Rattle.std.proofs.Common.{◌≡◌, Bool, true, false, not, ◌&&◌, ◌||◌, cond, List, [], ◌∷◌, ◌++◌, codes, Some, ◌⊎◌, inl, inr, refl, sym, ap, ◌∙◌, subst}
use Rattle.std.proofs.Common.{append_assoc, append-nil}
use Rattle.unicode_ident.proofs.Computing.{unicode_ident}
use Rattle.ron_spec_words.specs.Characters.{Text, continues_word}
use Rattle.ron_spec_words.specs.Runs.{begins, is_ended}
use Rattle.ron_spec_words.specs.Gap.{none, skip}
use Rattle.ron_spec_words.specs.Lang.{Lang, done, Means, Then, Group, Items}
use Rattle.ron_spec_words.specs.Name.{Name, is_name}
use Rattle.ron_spec_words.proofs.Gaps.{skip-other}
use Rattle.ron_spec_words.proofs.Names.{name_solid}
use Rattle.ron_base.specs.Extensions.{no_extensions, union, difference, extension_of_name}
use Rattle.ron_spec_grammar.specs.Rule.{Extensions}
use Rattle.ron_spec_grammar.specs.Attribute.{in_force, together, Enable, Attribute, Head}
use Rattle.ron_spec_layout.specs.Name.{is_plain_name, written_name}
use Rattle.ron_spec_layout.specs.Config.{Config}
use Rattle.ron_spec_layout.specs.Layout.{attribute_of, with_name_if, names_of_extensions, announcements_of, announcements, extensions_under}
use Rattle.ron_spec_layout.proofs.Names.{name_spelled}
use Rattle.ron_spec_layout.proofs.Closed.{Closed, before_any, AreGaps}

-- ---- one attribute

-- one directly behind the other
direct : {A B : Type 0} {L : Lang A} {M : A → Text → Lang B} (s t next : Text) (a : A) {b : B} → L s (t ++ next) a → skip (t ++ next) ≡ t ++ next
    → M a [] t next b → Then L M (s ++ t) next b
direct s t next a h n k =
    record { value = a; left = s; gap = []; right = t; split = refl; first = h; is_gap = record { is_gap = none; longest = n }; second = k }

-- the name of an extension that is written as it is
record Announces (name : Text) (e : Extensions) : Type 0 where
  named : is_name name ≡ true
  written : written_name name ≡ name
  meant : extension_of_name name ≡ Some e

attribute_spelled : (name : Text) (e : Extensions) → Announces name e → (next : Text) → Attribute (attribute_of name) next e
unfolding unicode_ident
attribute_spelled name e h next =
    subst (λ t. Attribute t next e) same (direct (35 ∷ []) (33 ∷ (91 ∷ (enable ++ 93 ∷ []))) next done (refl, refl) (skip-other 33 _ refl refl)
    (direct (33 ∷ []) (91 ∷ (enable ++ 93 ∷ [])) next done (refl, refl) (skip-other 91 _ refl refl) (direct (91 ∷ []) (enable ++ 93 ∷ []) next done (refl, refl)
    (skip-other 101 _ refl refl) (direct enable (93 ∷ []) next e (inl enabled) (skip-other 93 next refl refl) (refl, refl)))))
  where
    enable : Text
    enable = codes "enable" ++ (40 ∷ (name ++ 41 ∷ []))

    same : 35 ∷ 33 ∷ 91 ∷ (enable ++ 93 ∷ []) ≡ attribute_of name
    same = ap (λ u. codes "#![enable(" ++ u) (append_assoc name (41 ∷ []) (93 ∷ []))

    spelled : (n : Text) → begins continues_word n ≡ false → Name name n name
    spelled n e = subst (λ t. Name t n name) h.written (name_spelled name n h.named e)

    close : Text
    close = 41 ∷ (93 ∷ next)

    one : Items (λ _ _. Means Name extension_of_name) [] name close (e ∷ [])
    one = record {
      value = done;
      left = name;
      gap = [];
      right = [];
      split = sym (append-nil name);
      first = record { value = name; spelled = spelled close refl; meant = h.meant };
      is_gap = record { is_gap = none; longest = skip-other 41 (93 ∷ next) refl refl };
      second = inl (refl, refl);
    }

    names : Group 40 41 (λ gap. Means (Items (λ _ _. Means Name extension_of_name) gap) together) (40 ∷ (name ++ 41 ∷ [])) (93 ∷ next) e
    names = direct (40 ∷ []) (name ++ 41 ∷ []) (93 ∷ next) done (refl, refl)
        (rw (append_assoc name (41 ∷ []) (93 ∷ next)) (name_solid.holds name close name (spelled close refl)).1)
        (direct name (41 ∷ []) (93 ∷ next) e (record { value = e ∷ []; spelled = one; meant = refl }) (skip-other 41 (93 ∷ next) refl refl) (refl, refl))

    enabled : Enable enable (93 ∷ next) e
    enabled =
        direct (codes "enable") (40 ∷ (name ++ 41 ∷ [])) (93 ∷ next) done (record { same = refl; ends = refl; value = refl }) (skip-other 40 _ refl refl) names

-- ---- the four

abbrev only_newtypes : Extensions
only_newtypes = record no_extensions { unwrap_newtypes = true }

abbrev only_some : Extensions
only_some = record no_extensions { implicit_some = true }

abbrev only_variants : Extensions
only_variants = record no_extensions { unwrap_variant_newtypes = true }

abbrev only_names : Extensions
only_names = record no_extensions { explicit_struct_names = true }

says_newtypes : Announces (codes "unwrap_newtypes") only_newtypes
unfolding unicode_ident is_plain_name
says_newtypes = record { named = refl; written = refl; meant = refl }

says_some : Announces (codes "implicit_some") only_some
unfolding unicode_ident is_plain_name
says_some = record { named = refl; written = refl; meant = refl }

says_variants : Announces (codes "unwrap_variant_newtypes") only_variants
unfolding unicode_ident is_plain_name
says_variants = record { named = refl; written = refl; meant = refl }

says_names : Announces (codes "explicit_struct_names") only_names
unfolding unicode_ident is_plain_name
says_names = record { named = refl; written = refl; meant = refl }

-- ---- the head

-- names and what they announce
abbrev Announce : List Text → List Extensions → Type 0
Announce [] [] = Unit {0}
Announce [] (e ∷ es) = ⊥
Announce (n ∷ ns) [] = ⊥
Announce (n ∷ ns) (e ∷ es) = Announces n e × Announce ns es

abbrev pub with_set_if : Bool → Extensions → List Extensions → List Extensions
with_set_if taken e es = cond taken (e ∷ es) es

both_if : (b : Bool) (n : Text) (e : Extensions) (ns : List Text) (es : List Extensions) → Announces n e → Announce ns es
    → Announce (with_name_if b n ns) (with_set_if b e es)
both_if true n e ns es h k = (h, k)
both_if false n e ns es h k = k

abbrev pub sets_of : Extensions → List Extensions
sets_of x = with_set_if x.unwrap_newtypes only_newtypes
    (with_set_if x.implicit_some only_some (with_set_if x.unwrap_variant_newtypes only_variants (with_set_if x.explicit_struct_names only_names [])))

all_announce : (x : Extensions) → Announce (names_of_extensions x) (sets_of x)
all_announce x = both_if x.unwrap_newtypes _ only_newtypes _ _ says_newtypes (both_if x.implicit_some _ only_some _ _ says_some
    (both_if x.unwrap_variant_newtypes _ only_variants _ _ says_variants (both_if x.explicit_struct_names _ only_names [] [] says_names tt)))

module _ (c : Config) (gaps : AreGaps c) where
  -- attributes, the first behind this gap
  abbrev heads : Text → List Text → Text
  heads g [] = []
  heads g (n ∷ ns) = g ++ (attribute_of n ++ heads c.new_line ns)

  heads_spelled : (g : Text) → Closed g → (ns : List Text) (es : List Extensions) → Announce ns es → (next : Text) → Head es (heads g ns) next
  heads_spelled g cg [] [] h next = refl
  heads_spelled g cg [] (e ∷ es) h next = absurd h
  heads_spelled g cg (n ∷ ns) [] h next = absurd h
  heads_spelled g cg (n ∷ ns) (e ∷ es) h next = record {
    gap = g;
    attribute = attribute_of n;
    rest = heads c.new_line ns;
    split = refl;
    is_gap = record { is_gap = before_any cg _; longest = skip-other 35 _ refl refl };
    spelled = attribute_spelled n e h.0 (heads c.new_line ns ++ next);
    more = heads_spelled c.new_line gaps.new_line ns es h.1 next;
  }

  -- a new line before each but the first, or behind each
  moved : (ns : List Text) (t : Text) → c.new_line ++ (announcements_of c ns ++ t) ≡ heads c.new_line ns ++ (c.new_line ++ t)
  moved [] t = refl
  moved (n ∷ ns) t =
      let rest = announcements_of c ns in
      ap (λ u. c.new_line ++ u) (append_assoc (attribute_of n ++ c.new_line) rest t ∙ append_assoc (attribute_of n) c.new_line (rest ++ t)
      ∙ ap (λ u. attribute_of n ++ u) (moved ns t) ∙ sym (append_assoc (attribute_of n) (heads c.new_line ns) (c.new_line ++ t)))
      ∙ sym (append_assoc c.new_line (attribute_of n ++ heads c.new_line ns) (c.new_line ++ t))

  pub first_moved : (n : Text) (ns : List Text) (t : Text) → announcements_of c (n ∷ ns) ++ t ≡ heads [] (n ∷ ns) ++ (c.new_line ++ t)
  first_moved n ns t =
      let rest = announcements_of c ns in
      append_assoc (attribute_of n ++ c.new_line) rest t ∙ append_assoc (attribute_of n) c.new_line (rest ++ t) ∙ ap (λ u. attribute_of n ++ u) (moved ns t)
      ∙ sym (append_assoc (attribute_of n) (heads c.new_line ns) (c.new_line ++ t))

  -- The head: none; or attributes, with a new line before what follows.
  pub record Announced (defaults : Extensions) (t : Text) : Type 0 where
    pub announced : List Extensions
    pub head : Text
    pub lead : Text
    pub split : announcements defaults c ++ t ≡ head ++ (lead ++ t)
    pub is_head : Head announced head (lead ++ t)
    pub is_in_force : in_force defaults announced ≡ extensions_under defaults c
    pub form : ((head ≡ []) × (lead ≡ [])) ⊎ ((is_ended head ≡ false) × Closed lead)

  -- ---- what is in force

  abbrev after : Bool → Extensions → Extensions → Extensions
  after b e x = cond b (union x e) x

  in_force_if : (b : Bool) (x e : Extensions) (es : List Extensions) → in_force x (with_set_if b e es) ≡ in_force (after b e x) es
  in_force_if true x e es = refl
  in_force_if false x e es = refl

  or_false : (b : Bool) → (b || false) ≡ b
  or_false true = refl
  or_false false = refl

  abbrev four : Bool → Bool → Bool → Bool → Extensions
  four a i v s = record { unwrap_newtypes = a; implicit_some = i; unwrap_variant_newtypes = v; explicit_struct_names = s }

  step_newtypes : (a i v s b : Bool) → after (b && not a) only_newtypes (four a i v s) ≡ four (a || b) i v s
  step_newtypes true i v s true = refl
  step_newtypes true i v s false = refl
  step_newtypes false i v s true = simp or_false
  step_newtypes false i v s false = refl

  step_some : (a i v s b : Bool) → after (b && not i) only_some (four a i v s) ≡ four a (i || b) v s
  step_some a true v s true = refl
  step_some a true v s false = refl
  step_some a false v s true = simp or_false
  step_some a false v s false = refl

  step_variants : (a i v s b : Bool) → after (b && not v) only_variants (four a i v s) ≡ four a i (v || b) s
  step_variants a i true s true = refl
  step_variants a i true s false = refl
  step_variants a i false s true = simp or_false
  step_variants a i false s false = refl

  step_names : (a i v s b : Bool) → after (b && not s) only_names (four a i v s) ≡ four a i v (s || b)
  step_names a i v true true = refl
  step_names a i v true false = refl
  step_names a i v false true = simp or_false
  step_names a i v false false = refl

  all_in_force : (x e : Extensions) → in_force x (sets_of (difference e x)) ≡ union x e
  all_in_force x e =
      let d = difference e x in
      in_force_if d.unwrap_newtypes x only_newtypes _ ∙ ap (λ y. in_force y
      (with_set_if d.implicit_some only_some (with_set_if d.unwrap_variant_newtypes only_variants (with_set_if d.explicit_struct_names only_names []))))
      (step_newtypes x.unwrap_newtypes x.implicit_some x.unwrap_variant_newtypes x.explicit_struct_names e.unwrap_newtypes)
      ∙ in_force_if d.implicit_some _ only_some _
      ∙ ap (λ y. in_force y (with_set_if d.unwrap_variant_newtypes only_variants (with_set_if d.explicit_struct_names only_names [])))
      (step_some (x.unwrap_newtypes || e.unwrap_newtypes) x.implicit_some x.unwrap_variant_newtypes x.explicit_struct_names e.implicit_some)
      ∙ in_force_if d.unwrap_variant_newtypes _ only_variants _ ∙ ap (λ y. in_force y (with_set_if d.explicit_struct_names only_names [])) (step_variants
      (x.unwrap_newtypes || e.unwrap_newtypes) (x.implicit_some || e.implicit_some) x.unwrap_variant_newtypes x.explicit_struct_names e.unwrap_variant_newtypes)
      ∙ in_force_if d.explicit_struct_names _ only_names _ ∙ step_names (x.unwrap_newtypes || e.unwrap_newtypes) (x.implicit_some || e.implicit_some)
      (x.unwrap_variant_newtypes || e.unwrap_variant_newtypes) x.explicit_struct_names e.explicit_struct_names

  pub announced : (defaults : Extensions) (t : Text) → Announced defaults t
  announced defaults t = go (names_of_extensions d) refl
    where
      d : Extensions
      d = difference c.extensions defaults

      go : (ns : List Text) → names_of_extensions d ≡ ns → Announced defaults t
      go [] e = record {
        announced = sets_of d;
        head = [];
        lead = [];
        split = ap (λ ns. announcements_of c ns ++ t) e;
        is_head = subst (λ ns. Head (sets_of d) (heads [] ns) t) e (heads_spelled [] none (names_of_extensions d) (sets_of d) (all_announce d) t);
        is_in_force = all_in_force defaults c.extensions;
        form = inl (refl, refl);
      }
      go (n ∷ ns) e = record {
        announced = sets_of d;
        head = heads [] (n ∷ ns);
        lead = c.new_line;
        split = ap (λ ns. announcements_of c ns ++ t) e ∙ first_moved n ns t;
        is_head = subst (λ ns. Head (sets_of d) (heads [] ns) (c.new_line ++ t)) e
            (heads_spelled [] none (names_of_extensions d) (sets_of d) (all_announce d) (c.new_line ++ t));
        is_in_force = all_in_force defaults c.extensions;
        form = inr (refl, gaps.new_line);
      }

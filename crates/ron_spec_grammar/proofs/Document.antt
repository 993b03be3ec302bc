-- Documents, a head and a body under what is in force behind it, are read exactly: for the law of documents and the reading back of layouts.
use Rattle.std.proofs.Common.{◌≡◌, ℕ, ◌≤◌, true, false, List, [], ◌++◌, length, refl, sym, ap, subst, ◌∙◌, arith, length-append, Bool, ◌==◌, ◌∷◌, eqb-true}
use Rattle.std.proofs.Common.{eq-eqb}
use Rattle.ron_spec_words.specs.Characters.{Text}
use Rattle.ron_spec_words.specs.Runs.{is_at, is_ended}
use Rattle.ron_spec_words.specs.Gap.{skip}
use Rattle.ron_spec_words.specs.Reader.{deep, Got, got, failed}
use Rattle.ron_spec_words.proofs.Gaps.{skip-append}
use Rattle.ron_spec_grammar.specs.Data.{Data}
use Rattle.ron_spec_grammar.specs.Schema.{Shape, has_no_cycle}
use Rattle.ron_spec_grammar.specs.Rule.{Extensions}
use Rattle.ron_spec_grammar.specs.Attribute.{in_force, head}
use Rattle.ron_spec_grammar.specs.Document.{Body, Document, ok, err, behind_head, answer_document, BodyAt, answer_at}
use Rattle.ron_spec_grammar.specs.Room.{enough}
use Rattle.ron_spec_grammar.proofs.Room.{enough_rises}
use Rattle.ron_spec_grammar.proofs.Attribute.{head_sound, head_complete, head_calm}
use Rattle.ron_spec_grammar.proofs.Place as place
use Rattle.ron_spec_grammar.proofs.Whole as whole

-- a body is a document that announces nothing
pub body_alone : (x : Extensions) (schema : List Shape) (root limit : ℕ) (text : Text) (d : Data) → Body x schema root limit text d
    → Document x schema root limit text d
body_alone x schema root limit text d z = record { announced = []; head = []; body = text; split = refl; is_head = refl; is_body = z }

-- the body is all of the text where the head is empty
at_start : (head body text : Text) → text ≡ head ++ body → (length body == length text) ≡ is_ended head
at_start [] body text e = ap (λ u. length body == length u) e ∙ eq-eqb (length body) (length body) refl
at_start (c ∷ head) body text e = go (length body == length text) refl
  where
    go : (b : Bool) → (length body == length text) ≡ b → b ≡ false
    go true k = absurd (let same = eqb-true (length body) (length text) k in let more = ap length e in omega (arith, same, more, length-append (c ∷ head) body))
    go false k = refl

module _ (x : Extensions) (schema : List Shape) (root : ℕ) where
  -- no attribute stands in a body
  pub no_attribute : (b : Bool) (y : Extensions) (n : ℕ) (body : Text) (d : Data) → BodyAt b y schema root n body d → is_at 35 (skip body) ≡ false
  no_attribute b y n body d z = ap (λ u. is_at 35 (skip u)) z.split ∙ ap (is_at 35) (skip-append z.before (z.value ++ z.after) z.is_before)
      ∙ place.no_hash b y schema root n z.before z.value z.after d z.spelled

  pub head_of : (n : ℕ) (text : Text) (d : Data) (z : Document x schema root n text d) → head x text ≡ got (in_force x z.announced) z.body
  head_of n text d z =
      ap (head x) z.split ∙ head_complete z.announced x z.head z.body z.is_head (no_attribute (is_ended z.head) (in_force x z.announced) n z.body d z.is_body)

  -- behind this head
  module _ (text : Text) (y : Extensions) (body : Text) (h : head x text ≡ got y body) where
    pub of_body : (n : ℕ) (d : Data) → BodyAt (length body == length text) y schema root n body d → Document x schema root n text d
    of_body n d z = let k = head_sound x text y body h in
        record {
          announced = k.announced;
          head = k.stretch;
          body = body;
          split = k.split;
          is_head = k.is_head;
          is_body = subst (λ b. BodyAt b (in_force x k.announced) schema root n body d) (at_start k.stretch body text k.split)
              (subst (λ (u : Extensions). BodyAt (length body == length text) u schema root n body d) k.is_in_force z);
        }

    pub to_body : (n : ℕ) (d : Data) → Document x schema root n text d → BodyAt (length body == length text) y schema root n body d
    to_body n d z =
        let e : got (in_force x z.announced) z.body ≡ got y body = sym (head_of n text d z) ∙ h in
        let f : in_force x z.announced ≡ y = cc in
        let g : z.body ≡ body = cc in
        subst (λ (u : Text). BodyAt (length u == length text) y schema root n u d) g (subst (λ (u : Extensions). BodyAt (length z.body == length text) u schema
        root n z.body d) f (subst (λ b. BodyAt b (in_force x z.announced) schema root n z.body d) (sym (at_start z.head z.body text z.split)) z.is_body))

  answer_of : (limit n : ℕ) (text : Text) (d : Data) (z : Document x schema root n text d)
      → answer_document x schema root limit text ≡ answer_at (is_ended z.head) (in_force x z.announced) schema root limit z.body
  unfolding answer_document
  answer_of limit n text d z = ap (λ o. behind_head o (λ y body. answer_at (length body == length text) y schema root limit body)) (head_of n text d z)
      ∙ ap (λ b. answer_at b (in_force x z.announced) schema root limit z.body) (at_start z.head z.body text z.split)

  pub sound : (limit : ℕ) (text : Text) (d : Data) → answer_document x schema root limit text ≡ ok d → Document x schema root limit text d
  unfolding answer_document
  sound limit text d e = go (head x text) refl e
    where
      go : (o : Got Extensions) → head x text ≡ o → behind_head o (λ y body. answer_at (length body == length text) y schema root limit body) ≡ ok d
          → Document x schema root limit text d
      go (got y body) h k = of_body text y body h limit d (whole.sound (length body == length text) y schema root limit body d k)
      go (failed f) h k = absurd (cc)

  pub complete : (limit : ℕ) (text : Text) (d : Data) → Document x schema root limit text d → answer_document x schema root limit text ≡ ok d
  complete limit text d z = answer_of limit limit text d z ∙ whole.complete (is_ended z.head) (in_force x z.announced) schema root limit z.body d z.is_body

  pub monotone : (m n : ℕ) (text : Text) (d : Data) → m ≤ n → Document x schema root m text d → Document x schema root n text d
  monotone m n text d le z = record {
    announced = z.announced;
    head = z.head;
    body = z.body;
    split = z.split;
    is_head = z.is_head;
    is_body = whole.monotone (is_ended z.head) (in_force x z.announced) schema root m n z.body d le z.is_body;
  }

  pub unique : (m n : ℕ) (text : Text) (d e : Data) → Document x schema root m text d → Document x schema root n text e → d ≡ e
  unique m n text d e y z = whole.unique (length z.body == length text) (in_force x z.announced) schema root m n z.body d e
      (to_body text (in_force x z.announced) z.body (head_of n text e z) m d y) (to_body text (in_force x z.announced) z.body (head_of n text e z) n e z)

  pub too_deep : (limit n : ℕ) (text : Text) (d : Data) → Document x schema root n text d → (Document x schema root limit text d → ⊥)
      → answer_document x schema root limit text ≡ err deep
  too_deep limit n text d z other = answer_of limit n text d z ∙ whole.too_deep (is_ended z.head) (in_force x z.announced) schema root limit n z.body d
      z.is_body (λ b. other (of_body text (in_force x z.announced) z.body (head_of n text d z) limit d
      (subst (λ s. BodyAt s (in_force x z.announced) schema root limit z.body d) (sym (at_start z.head z.body text z.split)) b)))

  pub bounded : has_no_cycle schema ≡ true → (n : ℕ) (text : Text) (d : Data) → Document x schema root n text d
      → Document x schema root (enough schema false root (length text)) text d
  bounded h n text d z = monotone (enough schema false root (length z.body)) (enough schema false root (length text)) text d
      (enough_rises schema false root _ _ (omega (arith, ap length z.split, length-append z.head z.body)))
      (of_body text (in_force x z.announced) z.body (head_of n text d z) _ d (whole.bounded (length z.body == length text) (in_force x z.announced) schema root
      h n z.body d (to_body text (in_force x z.announced) z.body (head_of n text d z) n d z)))

  -- with so much room no document is too deep
  pub roomy : has_no_cycle schema ≡ true → (room : ℕ) (text : Text) → enough schema false root (length text) ≤ room
      → answer_document x schema root room text ≡ err deep → ⊥
  unfolding answer_document
  roomy h room text le e = go (head x text) refl e
    where
      go : (o : Got Extensions) → head x text ≡ o → behind_head o (λ y body. answer_at (length body == length text) y schema root room body) ≡ err deep → ⊥
      go (got y body) k d = let z = head_sound x text y body k in
          whole.roomy (length body == length text) y schema root h room body (let r =
          enough_rises schema false root (length body) (length text) (omega (arith, ap length z.split, length-append z.stretch body)) in omega (arith, le, r)) d
      go (failed f) k d = head_calm x text (let same : f ≡ deep = cc in k ∙ ap failed same)

-- The depth of a body and of a document, by the depths inside: for the laws that both are read exactly.
use Rattle.std.proofs.Common.{◌≡◌, ℕ, zero, suc, ◌+◌, ◌≤◌, Bool, true, false, cond, List, length, refl, sym, ap, subst, ◌∙◌, arith}
use Rattle.ron_spec_words.specs.Characters.{Text}
use Rattle.ron_spec_words.specs.Reader.{deep, bad}
use Rattle.ron_spec_grammar.specs.Data.{Data}
use Rattle.ron_spec_grammar.specs.Schema.{Shape, has_no_cycle}
use Rattle.ron_spec_grammar.specs.Rule.{Extensions}
use Rattle.ron_spec_grammar.specs.Room.{enough}
use Rattle.ron_spec_grammar.specs.Document.{Body, Document, Answer, ok, err, answer, answer_document, is_deep, first_failing, body_depth, document_depth}
use Rattle.ron_spec_grammar.proofs.Whole.{sound, complete, monotone, unique, too_deep, bounded}
use Rattle.ron_spec_grammar.proofs.Document as document

module _ (test : ℕ → Bool) where
  failing_least : (fuel n k : ℕ) → n ≤ k → test k ≡ false → first_failing test fuel n ≤ k
  failing_least zero n k le e = le
  failing_least (suc fuel) n k le e = go (test n) refl (λ lt. failing_least fuel (suc n) k lt e)
    where
      go : (b : Bool) → test n ≡ b → (suc n ≤ k → first_failing test fuel (suc n) ≤ k) → cond b (first_failing test fuel (suc n)) n ≤ k
      go true t ih = ih (let other : (n ≡ k → ⊥) = λ q. (let x : true ≡ false = sym t ∙ ap test q ∙ e in cc) in omega (arith, le, other))
      go false t ih = le

  failing_fails : (fuel n : ℕ) → test (n + fuel) ≡ false → test (first_failing test fuel n) ≡ false
  failing_fails zero n e = let same : n ≡ n + 0 = omega arith in ap test same ∙ e
  failing_fails (suc fuel) n e = go (test n) refl (failing_fails fuel (suc n) (let same : suc n + fuel ≡ n + suc fuel = omega arith in ap test same ∙ e))
    where
      go : (b : Bool) → test n ≡ b → test (first_failing test fuel (suc n)) ≡ false → test (cond b (first_failing test fuel (suc n)) n) ≡ false
      go true t ih = ih
      go false t ih = t

-- ---- the least limit within which an answer is not too deep

-- what is asked of an answer at each limit, and of what it tells
module _ (answer_at : ℕ → Answer) (P : ℕ → Data → Type 0) (sound : (limit : ℕ) (c : Data) → answer_at limit ≡ ok c → P limit c)
    (complete : (limit : ℕ) (c : Data) → P limit c → answer_at limit ≡ ok c)
    (unique : (m n : ℕ) (c e : Data) → P m c → P n e → c ≡ e) (too_deep : (limit n : ℕ) (c : Data) → P n c → (P limit c → ⊥) → answer_at limit ≡ err deep)
    (monotone : (m n : ℕ) (c : Data) → m ≤ n → P m c → P n c) (bound : ℕ) (d : Data) where
  not_deep : (limit : ℕ) → P limit d → is_deep (answer_at limit) ≡ false
  not_deep limit z = ap is_deep (complete limit d z)

  -- what is spelled at some depth is spelled within a limit for which it is not too deep
  is_spelled : (n limit : ℕ) → P n d → is_deep (answer_at limit) ≡ false → P limit d
  is_spelled n limit z e = go (answer_at limit) refl e
    where
      go : (o : Answer) → answer_at limit ≡ o → is_deep o ≡ false → P limit d
      go (ok c) k f = let y = sound limit c k in subst (λ a. P limit a) (unique limit n c d y z) y
      go (err deep) k f = absurd (cc)
      go (err bad) k f =
          absurd (let w : err bad ≡ err deep = sym k ∙ too_deep limit n d z (λ y. (let v : err bad ≡ ok d = sym k ∙ complete limit d y in cc)) in cc)

  pub least_within : (limit : ℕ) → P limit d → first_failing (λ k. is_deep (answer_at k)) bound 0 ≤ limit
  least_within limit z = failing_least (λ k. is_deep (answer_at k)) bound 0 limit (omega arith) (not_deep limit z)

  pub within_least : P bound d → (n limit : ℕ) → P n d → first_failing (λ k. is_deep (answer_at k)) bound 0 ≤ limit → P limit d
  within_least at_bound n limit z le =
      let same : bound ≡ 0 + bound = omega arith in
      let shallow : is_deep (answer_at (0 + bound)) ≡ false = subst (λ k. is_deep (answer_at k) ≡ false) same (not_deep bound at_bound) in
      monotone _ limit d le (is_spelled n _ z (failing_fails (λ k. is_deep (answer_at k)) bound 0 shallow))

-- ---- the depth of a body and of a document

module _ (x : Extensions) (schema : List Shape) (root : ℕ) (text : Text) (d : Data) where
  pub depth_within : (limit : ℕ) → Body x schema root limit text d → body_depth x schema root text ≤ limit
  unfolding body_depth
  depth_within = least_within (λ k. answer x schema root k text) (λ k c. Body x schema root k text c) (λ k. sound true x schema root k text)
      (λ k. complete true x schema root k text)
      (λ m n. unique true x schema root m n text) (λ m n. too_deep true x schema root m n text) (λ m n. monotone true x schema root m n text)
      (enough schema false root (length text)) d

  pub within_depth : has_no_cycle schema ≡ true → (n limit : ℕ) → Body x schema root n text d → body_depth x schema root text ≤ limit
      → Body x schema root limit text d
  unfolding body_depth
  within_depth h n limit z = within_least (λ k. answer x schema root k text) (λ k c. Body x schema root k text c) (λ k. sound true x schema root k text)
      (λ k. complete true x schema root k text)
      (λ m n. unique true x schema root m n text) (λ m n. too_deep true x schema root m n text) (λ m n. monotone true x schema root m n text)
      (enough schema false root (length text)) d (bounded true x schema root h n text d z) n limit z

  pub document_within : (limit : ℕ) → Document x schema root limit text d → document_depth x schema root text ≤ limit
  unfolding document_depth
  document_within = least_within (λ k. answer_document x schema root k text) (λ k c. Document x schema root k text c) (λ k. document.sound x schema root k text)
      (λ k. document.complete x schema root k text)
      (λ m n. document.unique x schema root m n text) (λ m n. document.too_deep x schema root m n text) (λ m n. document.monotone x schema root m n text)
      (enough schema false root (length text)) d

  pub within_document : has_no_cycle schema ≡ true → (n limit : ℕ) → Document x schema root n text d → document_depth x schema root text ≤ limit
      → Document x schema root limit text d
  unfolding document_depth
  within_document h n limit z = within_least (λ k. answer_document x schema root k text) (λ k c. Document x schema root k text c)
      (λ k. document.sound x schema root k text) (λ k. document.complete x schema root k text)
      (λ m n. document.unique x schema root m n text) (λ m n. document.too_deep x schema root m n text) (λ m n. document.monotone x schema root m n text)
      (enough schema false root (length text)) d (document.bounded x schema root h n text d z) n limit z

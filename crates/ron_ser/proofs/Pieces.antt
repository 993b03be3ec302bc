-- Texts that are written one after the other: for every leaf of the writer.
use Rattle.std.proofs.Common.{◌≡◌, ℕ, List, [], ◌∷◌, ◌++◌, refl, sym, ap, subst, ◌∙◌, append_assoc, append-nil}
use Rattle.std.specs.Fmt.{WritesInCalls}
use Rattle.std.specs.List.{concat, FoldsTo}

module _ {W : Type 0} (took : W → List ℕ → W → Type 0) where
  pub nothing : (w : W) → WritesInCalls took w [] w
  nothing w = record { parts = []; calls = refl; whole = refl }

  pub one : (w : W) (bs : List ℕ) (v : W) → took w bs v → WritesInCalls took w bs v
  one w bs v h = record { parts = bs ∷ []; calls = (v, h, refl); whole = append-nil bs }

  calls_both : (w : W) (xs : List (List ℕ)) (v : W) (ys : List (List ℕ)) (u : W) → FoldsTo took w xs v → FoldsTo took v ys u → FoldsTo took w (xs ++ ys) u
  calls_both w [] v ys u a b = subst (λ x. FoldsTo took x ys u) (sym a) b
  calls_both w (x ∷ xs) v ys u a b = (a.0, a.1, calls_both a.0 xs v ys u a.2 b)

  concat_both : (xs ys : List (List ℕ)) → concat (xs ++ ys) ≡ concat xs ++ concat ys
  concat_both [] ys = refl
  concat_both (x ∷ xs) ys = ap (λ t. x ++ t) (concat_both xs ys) ∙ sym (append_assoc x (concat xs) (concat ys))

  pub both : (w : W) (a : List ℕ) (v : W) (b : List ℕ) (u : W) → WritesInCalls took w a v → WritesInCalls took v b u → WritesInCalls took w (a ++ b) u
  both w a v b u p q = record {
    parts = p.parts ++ q.parts;
    calls = calls_both w p.parts v q.parts u p.calls q.calls;
    whole = concat_both p.parts q.parts ∙ rw (p.whole, q.whole) refl;
  }

  -- a piece, and what stands behind it
  pub piece : (w v u : W) (a b text : List ℕ) → text ≡ a ++ b → WritesInCalls took w a v → WritesInCalls took v b u → WritesInCalls took w text u
  piece w v u a b text e p q = subst (λ t. WritesInCalls took w t u) (sym e) (both w a v b u p q)

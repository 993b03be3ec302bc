-- Levels that are enough for a text: a reader function answers the same with any room above it. For code that counts levels down.
use Rattle.std.proofs.Common.{◌≡◌, ℕ, zero, suc, ◌+◌, ◌*◌, ◌≤◌, ◌<◌, Bool, true, false, if◌then◌else◌, List, length, ◌⊎◌, inl, inr, Option, Some, None}
use Rattle.std.proofs.Common.{slice_get, refl, sym, ap, ◌∙◌, arith, mul-le-mul_right}
use Rattle.std.specs.Option.{option_and_then}
use Rattle.ron_spec_grammar.specs.Schema.{Shape, content_of, content_at, ends_within, has_no_cycle}
use Rattle.ron_spec_grammar.specs.Room.{step, chain_from, rank, enough}
use Rattle.ron_spec_grammar.proofs.Finding.{all_get}

-- what a shape needs on an empty text, from a number for each index
abbrev pub size : List Shape → (ℕ → ℕ) → Bool → ℕ → ℕ
size schema base bare i = 2 + (base i + (if bare then length schema + 2 else 0))

-- The numbers of any two shapes are near enough, and that of an option or a newtype is greater than its content's, or at least the room that there is.
pub record Sizes (schema : List Shape) (top : ℕ) (base : ℕ → ℕ) : Type 0 where
  pub near : (i j : ℕ) → base j ≤ base i + length schema
  pub chain : (i j : ℕ) → content_at schema i ≡ Some j → (suc (base j) ≤ base i) ⊎ (top ≤ base i)

module _ (schema : List Shape) where
  pub step_is : step schema ≡ 2 * length schema + 8
  unfolding step
  step_is = refl

  chain_at_most : (n : ℕ) (o : Option ℕ) → chain_from schema n o ≤ n
  chain_at_most n None = omega arith
  chain_at_most zero (Some j) = omega arith
  chain_at_most (suc n) (Some j) = let le = chain_at_most n (content_at schema j) in omega (arith, le)

  pub rank_at_most : (i : ℕ) → rank schema i ≤ length schema
  unfolding rank
  rank_at_most i = chain_at_most (length schema) (content_at schema i)

  -- each character takes a step
  pub enough_of : (bare : Bool) (i n : ℕ) → enough schema bare i n ≡ n * step schema + size schema (rank schema) bare i
  unfolding enough
  enough_of true i n = omega arith
  enough_of false i n = omega arith

  pub enough_rises : (bare : Bool) (i m n : ℕ) → m ≤ n → enough schema bare i m ≤ enough schema bare i n
  enough_rises bare i m n le = let k : m * step schema ≤ n * step schema = mul-le-mul_right (step schema) le in
      omega (arith, enough_of bare i m, enough_of bare i n, k)

  -- ---- the chains of a schema without cycles

  -- a chain that ends is as long however far it is followed
  same_chain : (n : ℕ) (o : Option ℕ) → ends_within schema n o ≡ true → chain_from schema (suc n) o ≡ chain_from schema n o
  same_chain n None e = refl
  same_chain zero (Some j) e = absurd (cc)
  same_chain (suc n) (Some j) e = ap suc (same_chain n (content_at schema j) e)

  ends_at : has_no_cycle schema ≡ true → (i : ℕ) → ends_within schema (length schema) (content_at schema i) ≡ true
  ends_at h i = go (slice_get schema i) refl
    where
      go : (o : Option Shape) → slice_get schema i ≡ o → ends_within schema (length schema) (option_and_then content_of o) ≡ true
      go None e = refl
      go (Some s) e = all_get (λ s. ends_within schema (length schema) (content_of s)) schema i s h e

  pub rank_falls : has_no_cycle schema ≡ true → (i j : ℕ) → content_at schema i ≡ Some j → suc (rank schema j) ≤ rank schema i
  unfolding rank
  rank_falls h i j e = go (length schema) (ends_at h i)
    where
      go : (n : ℕ) → ends_within schema n (content_at schema i) ≡ true
          → suc (chain_from schema n (content_at schema j)) ≤ chain_from schema n (content_at schema i)
      go zero k = absurd (let q : ends_within schema 0 (Some j) ≡ true = ap (ends_within schema 0) (sym e) ∙ k in cc)
      go (suc n) k =
          let ends : ends_within schema n (content_at schema j) ≡ true = ap (ends_within schema (suc n)) (sym e) ∙ k in
          let is : chain_from schema (suc n) (content_at schema i) ≡ suc (chain_from schema n (content_at schema j)) = ap (chain_from schema (suc n)) e in
          omega (arith, is, same_chain n (content_at schema j) ends)

  pub ranks : has_no_cycle schema ≡ true → (top : ℕ) → Sizes schema top (rank schema)
  ranks h top = record { near = λ i j. (let le = rank_at_most j in omega (arith, le)); chain = λ i j e. inl (rank_falls h i j e) }

  -- numbers for any schema, which say nothing
  pub no_ranks : (top : ℕ) → Sizes schema top (λ i. top)
  no_ranks top = record { near = λ i j. omega arith; chain = λ i j e. inr (omega arith) }

  -- ---- what stands further in

  module _ {top : ℕ} {base : ℕ → ℕ} (sizes : Sizes schema top base) where
    -- two levels down in bare content
    pub size_within : (i j : ℕ) → size schema base false j + 2 ≤ size schema base true i
    size_within i j = let le = sizes.near i j in omega (arith, le)

    -- behind a bracket that may itself stand bare
    pub size_inside : (bare : Bool) (i : ℕ) → size schema base true i ≤ step schema + size schema base bare i
    size_inside true i = omega arith
    size_inside false i = omega (arith, step_is)

    -- two levels down behind a bracket, bare or not
    pub size_content : (bare : Bool) (i j : ℕ) → size schema base true j + 2 ≤ step schema + size schema base bare i
    size_content true i j = let le = sizes.near i j in omega (arith, le, step_is)
    size_content false i j = let le = sizes.near i j in omega (arith, le, step_is)

    -- one level down with no bracket
    pub size_chain : (bare : Bool) (i j : ℕ) → content_at schema i ≡ Some j
        → (size schema base bare j + 1 ≤ size schema base bare i) ⊎ (top < size schema base bare i)
    size_chain bare i j e = go bare (sizes.chain i j e)
      where
        go : (bare : Bool) → (suc (base j) ≤ base i) ⊎ (top ≤ base i)
            → (size schema base bare j + 1 ≤ size schema base bare i) ⊎ (top < size schema base bare i)
        go true (inl le) = inl (omega arith)
        go false (inl le) = inl (omega arith)
        go true (inr le) = inr (omega arith)
        go false (inr le) = inr (omega arith)

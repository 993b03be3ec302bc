-- Chains of options and newtypes, how long they are and which end: for the ranks that a schema notes.
use Rattle.std.proofs.Common.{◌≡◌, ◌≢◌, ℕ, zero, suc, ◌+◌, ◌-◌, ◌≤◌, ◌<◌, eqb, Bool, true, false, nat_lt, List, [], ◌∷◌, length, Option, Some, None, slice_get}
use Rattle.std.proofs.Common.{slice_index, slice_set, max, refl, sym, ap, ◌∙◌, add-one, get_or-set_other, get_or-set_same, arith}
use Rattle.std.specs.Option.{option_and_then}
use Rattle.std.specs.List.{list_all}
use Rattle.std.proofs.lemmas.Option.{slice_get_within}
use Rattle.std.proofs.lemmas.Bool.{eqb-true, eqb-false}
use Rattle.ron_spec_grammar.specs.Schema.{Shape, bool, int, char, str, bytes, unit, optional, unit_struct, seq, tuple, tuple_struct, map, newtype, struct, enum}
use Rattle.ron_spec_grammar.specs.Schema.{any_value, any_raw, holds_below, content_of, content_at, ends_within, has_no_cycle}
use Rattle.ron_spec_grammar.specs.Room.{chain_from, rank, longest_of}
use Rattle.ron_spec_grammar.proofs.Finding.{all_get}
use Rattle.ron_spec_grammar.proofs.Room.{rank_falls}
use Rattle.ron_data_schema.specs.Chains.{is_of_length, AreRanks}

-- what an option or a newtype holds lies below where all its indices do
pub content_below : (n : ℕ) (s : Shape) (j : ℕ) → holds_below n s ≡ true → content_of s ≡ Some j → nat_lt j n ≡ true
content_below n (optional k) j h e = let same : k ≡ j = cc in rw (← same) h
content_below n (newtype name k) j h e = let same : k ≡ j = cc in rw (← same) h
content_below n bool j h e = absurd (cc)
content_below n (int w) j h e = absurd (cc)
content_below n char j h e = absurd (cc)
content_below n str j h e = absurd (cc)
content_below n bytes j h e = absurd (cc)
content_below n unit j h e = absurd (cc)
content_below n (unit_struct name) j h e = absurd (cc)
content_below n (seq k) j h e = absurd (cc)
content_below n (tuple ks) j h e = absurd (cc)
content_below n (tuple_struct name ks) j h e = absurd (cc)
content_below n (map k v) j h e = absurd (cc)
content_below n (struct name list) j h e = absurd (cc)
content_below n (enum name variants) j h e = absurd (cc)
content_below n any_value j h e = absurd (cc)
content_below n any_raw j h e = absurd (cc)

-- what passes at each index passes at each element
pub all_from : {A : Type 0} (test : A → Bool) (xs : List A) → ((i : ℕ) (a : A) → slice_get xs i ≡ Some a → test a ≡ true) → list_all test xs ≡ true
all_from test [] h = refl
all_from test (x ∷ xs) h = rw (h 0 x refl) (all_from test xs (λ i a e. h (suc i) a e))

module _ (table : List Shape) where
  -- a chain of just so many members ends within them, and is as long
  pub exact_ends : (r n : ℕ) (o : Option ℕ) → is_of_length table r o ≡ true → r ≤ n → (ends_within table n o ≡ true) × (chain_from table n o ≡ r)
  exact_ends zero n None h le = (refl, refl)
  exact_ends zero n (Some j) h le = absurd (cc)
  exact_ends (suc r) n None h le = absurd (cc)
  exact_ends (suc r) zero (Some j) h le = absurd (omega arith)
  exact_ends (suc r) (suc n) (Some j) h le = let e = exact_ends r n (content_at table j) h (omega arith) in (e.0, ap suc e.1)

  -- and not within fewer
  pub exact_is_long : (r n : ℕ) (o : Option ℕ) → is_of_length table r o ≡ true → n < r → ends_within table n o ≡ false
  exact_is_long zero n o h less = absurd (omega arith)
  exact_is_long (suc r) n None h less = absurd (cc)
  exact_is_long (suc r) zero (Some j) h less = refl
  exact_is_long (suc r) (suc n) (Some j) h less = exact_is_long r n (content_at table j) h (omega arith)

  -- ---- the chain at an index, followed for so many members

  -- the chain at i goes on at the index `at`, behind so many members
  pub record GoesOn (i members at : ℕ) : Type 0 where
    pub length : (n : ℕ) → is_of_length table (members + n) (content_at table i) ≡ is_of_length table n (content_at table at)
    pub ends : (n : ℕ) → ends_within table (members + n) (content_at table i) ≡ ends_within table n (content_at table at)

  pub begins : (i : ℕ) → GoesOn i 0 i
  begins i = record {
    length = λ n. ap (λ k. is_of_length table k (content_at table i)) (omega arith);
    ends = λ n. ap (λ k. ends_within table k (content_at table i)) (omega arith);
  }

  pub goes_on : (i members at j : ℕ) → content_at table at ≡ Some j → GoesOn i members at → GoesOn i (members + 1) j
  goes_on i members at j e g = record {
    length = λ n. ap (λ k. is_of_length table k (content_at table i)) (omega arith) ∙ (g.length (suc n) ∙ ap (is_of_length table (suc n)) e);
    ends = λ n. ap (λ k. ends_within table k (content_at table i)) (omega arith) ∙ (g.ends (suc n) ∙ ap (ends_within table (suc n)) e);
  }

  -- behind so many members it ends
  pub ends_here : (i members at : ℕ) → content_at table at ≡ None → GoesOn i members at → is_of_length table members (content_at table i) ≡ true
  ends_here i members at e g =
      ap (λ k. is_of_length table k (content_at table i)) (omega arith) ∙ (g.length 0 ∙ ap (is_of_length table 0) e)

  -- behind so many members it goes on
  pub ends_later : (i members at j : ℕ) → content_at table at ≡ Some j → GoesOn i members at → ends_within table members (content_at table i) ≡ false
  ends_later i members at j e g =
      ap (λ k. ends_within table k (content_at table i)) (omega arith) ∙ (g.ends 0 ∙ ap (ends_within table 0) e)

  -- behind so many members it has just so many more
  pub ends_known : (i members at known : ℕ) → is_of_length table known (content_at table at) ≡ true → GoesOn i members at
      → is_of_length table (members + known) (content_at table i) ≡ true
  ends_known i members at known e g = g.length known ∙ e

  -- ---- all chains

  -- a table with a chain that doesn't end within its length has a cycle
  pub has_cycle : (i : ℕ) → ends_within table (length table) (content_at table i) ≡ false → has_no_cycle table ≡ false
  has_cycle i e = here (slice_get table i) refl
    where
      other : (s : Shape) → slice_get table i ≡ Some s → ends_within table (length table) (content_of s) ≡ false → (b : Bool) → has_no_cycle table ≡ b
          → b ≡ false
      other s at k false h = refl
      other s at k true h = absurd (let q = all_get (λ s. ends_within table (length table) (content_of s)) table i s h at in cc)

      here : (o : Option Shape) → slice_get table i ≡ o → has_no_cycle table ≡ false
      here None at = absurd
          (let q : ends_within table (length table) None ≡ false = ap (λ o. ends_within table (length table) (option_and_then content_of o)) (sym at) ∙ e in cc)
      here (Some s) at = other s at (ap (λ o. ends_within table (length table) (option_and_then content_of o)) (sym at) ∙ e) (has_no_cycle table) refl

  -- where each chain ends within the table's length, there is none
  pub no_cycle : ((i : ℕ) → i < length table → ends_within table (length table) (content_at table i) ≡ true) → has_no_cycle table ≡ true
  no_cycle h = all_from (λ s. ends_within table (length table) (content_of s)) table
      (λ i s at. sym (ap (λ o. ends_within table (length table) (option_and_then content_of o)) at) ∙ h i (slice_get_within table i s at))

  pub rank_is : (i r : ℕ) → is_of_length table r (content_at table i) ≡ true → r ≤ length table → rank table i ≡ r
  unfolding rank
  rank_is i r h le = (exact_ends r (length table) (content_at table i) h le).1

  -- ---- a chain is one longer than what follows its first member

  no_longer : (n : ℕ) (o : Option ℕ) → chain_from table n o ≤ chain_from table (suc n) o
  no_longer n None = omega arith
  no_longer zero (Some j) = omega arith
  no_longer (suc n) (Some j) = let le = no_longer n (content_at table j) in omega (arith, le)

  one_longer_at : (n i j : ℕ) → content_at table i ≡ Some j → chain_from table n (content_at table i) ≤ suc (chain_from table n (content_at table j))
  one_longer_at n i j e = rw e (go n)
    where
      go : (n : ℕ) → chain_from table n (Some j) ≤ suc (chain_from table n (content_at table j))
      go zero = omega arith
      go (suc n) = let le = no_longer n (content_at table j) in omega (arith, le)

  pub one_longer : has_no_cycle table ≡ true → (i j : ℕ) → content_at table i ≡ Some j → rank table i ≡ suc (rank table j)
  unfolding rank
  one_longer h i j e = let falls = rank_falls table h i j e in let le = one_longer_at (length table) i j e in omega (arith, falls, le)

  -- ---- ranks that are noted on the way

  pub exact_behind : (left at j : ℕ) → content_at table at ≡ Some j → is_of_length table left (content_at table at) ≡ true
      → is_of_length table (left - 1) (content_at table j) ≡ true
  exact_behind zero at j e h = absurd (let q : is_of_length table 0 (Some j) ≡ true = ap (is_of_length table 0) (sym e) ∙ h in cc)
  exact_behind (suc n) at j e h = ap (λ k. is_of_length table k (content_at table j)) (omega arith) ∙ (ap (is_of_length table (suc n)) (sym e) ∙ h)

  pub noted : (ranks : List ℕ) (at rank : ℕ) → at < length ranks → is_of_length table rank (content_at table at) ≡ true → AreRanks table ranks
      → AreRanks table (slice_set ranks at rank)
  noted ranks at rank less h known i = go (eqb i at) refl
    where
      go : (b : Bool) → eqb i at ≡ b → 0 < slice_index (slice_set ranks at rank) i
          → is_of_length table (slice_index (slice_set ranks at rank) i) (content_at table i) ≡ true
      go true k = let same : i ≡ at = eqb-true i at k in rw (same, get_or-set_same) (λ p. h)
      go false k = let ne : i ≢ at = eqb-false i at k in rw get_or-set_other (known i)

  -- ---- the longest chain

  longest_next : (i : ℕ) → longest_of table (i + 1) ≡ max (rank table i) (longest_of table i)
  longest_next i = ap (longest_of table) (add-one i)

  pub longest_rises : (i r longest : ℕ) → rank table i ≡ r → longest ≡ longest_of table i → longest < r → r ≡ longest_of table (i + 1)
  longest_rises i r longest p q less = let e = longest_next i in omega (arith, e, p, q, less)

  pub longest_stays : (i r longest : ℕ) → rank table i ≡ r → longest ≡ longest_of table i → r ≤ longest → longest ≡ longest_of table (i + 1)
  longest_stays i r longest p q le = let e = longest_next i in omega (arith, e, p, q, le)

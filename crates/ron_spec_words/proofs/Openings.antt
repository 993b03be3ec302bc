-- What stands behind the opening brackets of a text: token by token, and what the pass over it finds.
use Rattle.std.proofs.Common.{◌≡◌, ℕ, zero, suc, ◌-◌, ◌<◌, ◌≤◌, Bool, true, false, cond, if◌then◌else◌, length, List, [], ◌∷◌, ◌++◌, map, append_assoc, Option}
use Rattle.std.proofs.Common.{Some, None, option_map, refl, sym, ap, ap₂, ◌∙◌, length-append, arith}
use Rattle.std.specs.Prelude.{Contains}
use Rattle.std.specs.Option.{unwrap_or}
use Rattle.std.specs.List.{All}
use Rattle.std.specs.List.Sorted.{IsNonDecreasing}
use Rattle.std.proofs.lemmas.Bool.{or_parts, not-true}
use Rattle.std.proofs.lemmas.List.{map-append}
use Rattle.std.proofs.lemmas.List.Elements.{All-nil, All-cons, All-map, All-contains, Contains-append_right}
use Rattle.ron_spec_words.specs.Characters.{Text}
use Rattle.ron_spec_words.specs.Gap.{LongGap, skip, gap_of}
use Rattle.ron_spec_words.specs.Scan.{token, is_opening}
use Rattle.ron_spec_words.specs.Kind.{kind}
use Rattle.ron_spec_words.specs.KindTable.{kinds}
use Rattle.ron_spec_words.specs.Beyond.{bytes_in}
use Rattle.ron_spec_words.specs.Openings.{Leads, same, past, insides_from, insides, AreKindsOfInsides, FindsContent, AreEnds, AreInOrder}
use Rattle.ron_spec_words.proofs.Gaps.{cut}
use Rattle.ron_spec_words.proofs.Tokens.{gap_starts, token_gap}
use Rattle.ron_spec_words.proofs.Fronts.{token_front}
use Rattle.ron_spec_words.proofs.Walks.{opening_alone, gap_other}
use Rattle.ron_spec_words.proofs.KindSteps.{taken}
use Rattle.ron_spec_words.proofs.KindTables.{kinds_here, kinds_over, kinds_broken, kinds_end}
use Rattle.ron_spec_words.proofs.Sizes.{size_end, size_skip}

-- ---- a token

-- what an opening bracket adds
abbrev pub insides_here : ℕ → Text → List Text
insides_here c s = if is_opening c then s ∷ [] else []

insides-counted : (t s : Text) → insides_from (length t) (t ++ s) ≡ insides s
unfolding insides_from
insides-counted [] s = refl
insides-counted (c ∷ t) s = insides-counted t s

pub insides_over : (c : ℕ) (s rest : Text) → token (c ∷ s) ≡ Some rest → insides (c ∷ s) ≡ insides_here c s ++ insides rest
unfolding insides_from
insides_over c s rest h =
    let k = taken c s rest h in
    ap (λ o. unwrap_or (option_map (λ rest. insides_here c s ++ insides_from (length s - length rest) s) o) []) h
    ∙ ap (λ u. insides_here c s ++ u) (ap₂ insides_from k.count k.split ∙ insides-counted k.more rest)

pub insides_broken : (c : ℕ) (s : Text) → token (c ∷ s) ≡ None → insides (c ∷ s) ≡ []
unfolding insides_from
insides_broken c s h = ap (λ o. unwrap_or (option_map (λ rest. insides_here c s ++ insides_from (length s - length rest) s) o) []) h

pub insides_end : insides [] ≡ []
unfolding insides_from
insides_end = refl

-- a bracket, and a token that is none
pub insides_open : (c : ℕ) (s : Text) → is_opening c ≡ true → insides (c ∷ s) ≡ s ∷ insides s
insides_open c s o = insides_over c s s (opening_alone c s o) ∙ ap (λ b. cond b (s ∷ []) [] ++ insides s) o

pub insides_within : (c : ℕ) (s rest : Text) → token (c ∷ s) ≡ Some rest → is_opening c ≡ false → insides (c ∷ s) ≡ insides rest
insides_within c s rest h o = insides_over c s rest h ∙ ap (λ b. cond b (s ∷ []) [] ++ insides rest) o

-- a gap holds none
insides_skip : (s : Text) → insides s ≡ insides (skip s)
insides_skip s = let k = cut s in ap insides k.split ∙ go (gap_of s) k.is_gap
  where
    go : (g : Text) → LongGap g (skip s) → insides (g ++ skip s) ≡ insides (skip s)
    go [] h = refl
    go (c ∷ g) h = insides_within c (g ++ skip s) (skip s) (token_gap c g (skip s) h)
        (or_parts (is_opening c) _ (not-true _ (gap_other c (gap_starts c g (skip s) h.is_gap)))).0

-- ---- all tokens

-- What holds of the empty text, at a broken token, behind a bracket and behind another token holds of every text.
record Turns (P : Text → Type 0) : Type 0 where
  over_end : P []
  over_broken : (c : ℕ) (s : Text) → token (c ∷ s) ≡ None → P (c ∷ s)
  over_open : (c : ℕ) (s : Text) → is_opening c ≡ true → P s → P (c ∷ s)
  over_token : (c : ℕ) (s rest : Text) → token (c ∷ s) ≡ Some rest → is_opening c ≡ false → P rest → P (c ∷ s)

module _ (P : Text → Type 0) (k : Turns P) where
  by_turn : (c : ℕ) (s : Text) → ((u : Text) → length u < length (c ∷ s) → P u) → P (c ∷ s)
  by_turn c s below = go (token (c ∷ s)) refl
    where
      on_token : (rest : Text) → token (c ∷ s) ≡ Some rest → length rest < length (c ∷ s) → (o : Bool) → is_opening c ≡ o → P (c ∷ s)
      on_token rest h lt true o = k.over_open c s o (below s (omega arith))
      on_token rest h lt false o = k.over_token c s rest h o (below rest lt)

      go : (a : Option Text) → token (c ∷ s) ≡ a → P (c ∷ s)
      go None h = k.over_broken c s h
      go (Some rest) h = let t = taken c s rest h in on_token rest h (omega (arith, ap length t.split, length-append t.more rest)) (is_opening c) refl

  turns_below : (n : ℕ) (s : Text) → length s < n → P s
  turns_below n [] lt = k.over_end
  turns_below zero (c ∷ s) lt = absurd (omega (arith, lt))
  turns_below (suc n) (c ∷ s) lt = by_turn c s (λ u l. turns_below n u (omega (arith, l, lt)))

  by_tokens : (s : Text) → P s
  by_tokens s = turns_below (suc (length s)) s (omega arith)

-- ---- their kinds

kinds_of_here : (c : ℕ) (s : Text) → kinds_here c s ≡ map kind (insides_here c s)
kinds_of_here c s = elim (is_opening c) as (λ b. cond b (kind s ∷ []) [] ≡ map kind (cond b (s ∷ []) [])) [ true ↦ refl | false ↦ refl ]

kinds_step : (c : ℕ) (s rest : Text) → token (c ∷ s) ≡ Some rest → kinds rest ≡ map kind (insides rest) → kinds (c ∷ s) ≡ map kind (insides (c ∷ s))
kinds_step c s rest h k =
    kinds_over c s rest h ∙ ap₂ (λ x y. x ++ y) (kinds_of_here c s) k ∙ sym (map-append kind (insides_here c s) (insides rest))
    ∙ ap (map kind) (sym (insides_over c s rest h))

pub kinds_of_insides : AreKindsOfInsides
kinds_of_insides = by_tokens (λ s. kinds s ≡ map kind (insides s)) (record {
  over_end = kinds_end ∙ ap (map kind) (sym insides_end);
  over_broken = λ c s h. kinds_broken c s h ∙ ap (map kind) (sym (insides_broken c s h));
  over_open = λ c s o k. kinds_step c s s (opening_alone c s o) k;
  over_token = λ c s rest h o k. kinds_step c s rest h k;
})

-- ---- content

contains_lead : (c : ℕ) (inside : Text) → is_opening c ≡ true → {s u : Text} → Leads s u → u ≡ c ∷ inside → Contains (insides s) inside
contains_lead c inside o (same s) e = rw (e, insides_open c inside o) (0, omega arith, refl)
contains_lead c inside o (past s next u h l) e =
    let f = token_front s next h in
    let k : insides s ≡ insides_here f.0 (f.1 ++ next) ++ insides next = ap insides f.2 ∙ insides_over f.0 (f.1 ++ next) next (ap token (sym f.2) ∙ h) in
    rw k (Contains-append_right (insides_here f.0 (f.1 ++ next)) (insides next) inside (contains_lead c inside o l e))

pub finds_content : FindsContent
finds_content s content h = contains_lead h.bracket h.inside h.opens h.leads refl

-- ---- ends of the text

abbrev IsEnd : Text → Text → Type 0
IsEnd s inside = (front : Text) × (s ≡ front ++ inside)

end_over : (c : ℕ) (s rest inside : Text) → token (c ∷ s) ≡ Some rest → IsEnd rest inside → IsEnd (c ∷ s) inside
end_over c s rest inside h e =
    let k = taken c s rest h in
    (c ∷ (k.more ++ e.0), ap (λ u. c ∷ u) (k.split ∙ ap (λ u. k.more ++ u) e.1 ∙ sym (append_assoc k.more e.0 inside)))

all_ends : (s : Text) → All (IsEnd s) (insides s)
all_ends = by_tokens (λ s. All (IsEnd s) (insides s)) (record {
  over_end = rw insides_end (All-nil (IsEnd []));
  over_broken = λ c s h. rw (insides_broken c s h) (All-nil (IsEnd (c ∷ s)));
  over_open =
      λ c s o k. rw (insides_open c s o) (All-cons (IsEnd (c ∷ s)) s (insides s) (c ∷ [], refl) (λ i d lt. end_over c s s _ (opening_alone c s o) (k i d lt)));
  over_token = λ c s rest h o k. rw (insides_within c s rest h o) (λ i d lt. end_over c s rest _ h (k i d lt));
})

pub are_ends : AreEnds
are_ends s inside h = All-contains (IsEnd s) (insides s) inside (all_ends s) h

-- ---- their order

-- the content of each begins within the text, and behind its first gap
abbrev BeginsWithin : Text → Text → Type 0
BeginsWithin s inside = bytes_in (skip inside) ≤ bytes_in (skip s)

end_size : (s inside : Text) → IsEnd s inside → bytes_in (skip inside) ≤ bytes_in s
end_size s inside e = omega (arith, size_end e.0 inside s e.1, size_skip inside)

all_behind : (s : Text) → All (λ inside. bytes_in (skip inside) ≤ bytes_in s) (insides s)
all_behind s i d lt = end_size s _ (all_ends s i d lt)

all_within : (s : Text) → All (BeginsWithin s) (insides s)
all_within s = rw (insides_skip s) (all_behind (skip s))

-- a number before numbers that are no less
first_least : (n : ℕ) (ns : List ℕ) → All (λ m. n ≤ m) ns → IsNonDecreasing ns → IsNonDecreasing (n ∷ ns)
first_least n ns least up zero zero d le lt = omega arith
first_least n ns least up zero (suc j) d le lt = least j d (omega (arith, lt))
first_least n ns least up (suc i) zero d le lt = absurd (omega (arith, le))
first_least n ns least up (suc i) (suc j) d le lt = up i j d (omega (arith, le)) (omega (arith, lt))

nothing_falls : IsNonDecreasing []
nothing_falls i j d le lt = absurd (omega (arith, lt))

-- as they stand in a text of that many bytes
module _ (n : ℕ) where
  abbrev place : Text → ℕ
  place inside = n - bytes_in (skip inside)

  places_rise : (s : Text) → IsNonDecreasing (map place (insides s))
  places_rise = by_tokens (λ s. IsNonDecreasing (map place (insides s))) (record {
    over_end = rw insides_end nothing_falls;
    over_broken = λ c s h. rw (insides_broken c s h) nothing_falls;
    over_open = λ c s o k. rw (insides_open c s o) (first_least (place s) (map place (insides s))
        (All-map (λ m. place s ≤ m) place (insides s) (λ i d lt. let l = all_within s i d lt in omega (arith, l))) k);
    over_token = λ c s rest h o k. rw (insides_within c s rest h o) k;
  })

pub are_in_order : AreInOrder
are_in_order s = places_rise (bytes_in s) s

-- All that is proved of a reader function and its language, in one record, with one lemma for each way to make them.
use Rattle.std.proofs.Common.{◌≡◌, ℕ, suc, ◌+◌, ◌*◌, ◌≤◌, ◌<◌, ◌==◌, Bool, true, false, List, ◌++◌, inr, Option, Some, refl, arith, mul-le-mul_right}
use Rattle.ron_spec_words.specs.Characters.{Text, right_parenthesis, comma}
use Rattle.ron_spec_words.specs.Runs.{is_at}
use Rattle.ron_spec_words.specs.Gap.{LongGap, is_delimiter}
use Rattle.ron_spec_words.specs.Lang.{Lang, done, Nothing, Then, Means, Or, OptComma, Items, WithComma, Group, Needs}
use Rattle.ron_spec_words.specs.Reader.{deep, bad, Reader, fail, in_sequence, means, pick, opt_comma, items, with_comma, group, needs}
use Rattle.ron_spec_words.specs.Exact.{Exact, IsWordReader, Anything, Before, FollowsValue}
use Rattle.ron_spec_words.specs.Scan.{is_opening, is_closing, Passes}
use Rattle.ron_spec_words.proofs.Words.{First, word_fail}
use Rattle.ron_spec_words.proofs.Classes.{apart}
use Rattle.ron_spec_words.proofs.Exactly.{Opens, exact_word, exact_before, exact_means, exact_needs, exact_choose, exact_chain, exact_opt_comma, exact_items}
use Rattle.ron_spec_words.proofs.Exactly.{exact_group, comma_follows, Begins, begins_first, begins_then, begins_or, begins_opt_comma, begins_items, first_then}
use Rattle.ron_spec_words.proofs.Exactly.{first_mark}
use Rattle.ron_spec_words.proofs.Room.{Agrees, agrees_same, agrees_chain, agrees_means, agrees_pick, agrees_needs, agrees_items, agrees_group}
use Rattle.ron_spec_words.proofs.Room.{Shallow, shallow_calm, shallow_mark, shallow_means, shallow_pick, shallow_needs, shallow_chain, shallow_comma}
use Rattle.ron_spec_words.proofs.Room.{shallow_behind, shallow_items}
use Rattle.ron_spec_words.proofs.Values.{Values, AnyValue, Each, values_any, values_nothing, values_means, values_then, values_or, values_needs}
use Rattle.ron_spec_words.proofs.Values.{values_opt_comma, values_group, values_items}
use Rattle.ron_spec_words.proofs.Passing.{passes_nothing, passes_means, passes_needs, passes_or, passes_before, passes_any, passes_then, passes_opt_comma}
use Rattle.ron_spec_words.proofs.Passing.{passes_items, passes_group}

-- q, at some room, answers as r does at the room `room`, or that it is too deep. r is exact, and never too deep on a text of
-- n characters where there is room for n * step + extra levels. What is spelled begins with no slash, has P, and is a walk over whole tokens, with `true` one
-- where commas may stand outside its brackets.
module _ (room step : ℕ) where
  pub record Part {A : Type 0} (commas : Bool) (P : A → Type 0) (q r : Reader A) (L : Lang A) (F : Text → Type 0) (extra : ℕ) : Type 0 where
    pub exact : Exact r L F
    pub begins : Begins L F
    pub agrees : Agrees q r
    pub shallow : (n : ℕ) → n * step + extra ≤ room → Shallow r n
    pub values : Values P L
    pub passes : Passes commas L F

down : (step m n : ℕ) → m < n → m * step + step ≤ n * step
down step m n lt = let k : (m + 1) * step ≤ n * step = mul-le-mul_right step (omega arith) in omega arith

module _ {room step : ℕ} where
  pub part_more : {b : Bool} {A : Type 0} {P : A → Type 0} {q r : Reader A} {L : Lang A} {F : Text → Type 0} {d e : ℕ} → Part room step b P q r L F d → d ≤ e
      → Part room step b P q r L F e
  part_more h le =
      record { exact = h.exact; begins = h.begins; agrees = h.agrees; shallow = λ n w. h.shallow n (omega arith); values = h.values; passes = h.passes }

  pub part_weaker : {b : Bool} {A : Type 0} {P Q : A → Type 0} {q r : Reader A} {L : Lang A} {F : Text → Type 0} {e : ℕ} → ((a : A) → P a → Q a)
      → Part room step b P q r L F e → Part room step b Q q r L F e
  part_weaker k h = record {
    exact = h.exact;
    begins = h.begins;
    agrees = h.agrees;
    shallow = h.shallow;
    values = record { are = λ t next a z. k a (h.values.are t next a z) };
    passes = h.passes;
  }

  -- where commas need not stand they may
  pub part_commas : (b : Bool) {A : Type 0} {P : A → Type 0} {q r : Reader A} {L : Lang A} {F : Text → Type 0} {e : ℕ} → Part room step false P q r L F e
      → Part room step b P q r L F e
  part_commas b h = record { exact = h.exact; begins = h.begins; agrees = h.agrees; shallow = h.shallow; values = h.values; passes = passes_any b h.passes }

  pub part_any : {b : Bool} {A : Type 0} {P : A → Type 0} {q r : Reader A} {L : Lang A} {e : ℕ} (G : Text → Type 0) → Part room step b P q r L Anything e
      → Part room step b P q r L G e
  part_any G h = record {
    exact = exact_before Anything G (λ _ _. tt) h.exact;
    begins = record { no_slash = λ t next a z _ n. h.begins.no_slash t next a z tt n };
    agrees = h.agrees;
    shallow = h.shallow;
    values = h.values;
    passes = passes_before Anything G (λ _ _. tt) h.passes;
  }

  pub part_word : {b : Bool} {A : Type 0} {r : Reader A} {L : Lang A} {F : Text → Type 0} {e : ℕ} → IsWordReader r L → First (λ s. is_at 47 s ≡ false) L
      → Passes b L F → Part room step b AnyValue r r L F e
  part_word {F = F} h o p = record {
    exact = exact_word F h;
    begins = begins_first F o;
    agrees = agrees_same _;
    shallow = λ n w. shallow_calm n h.calm;
    values = values_any;
    passes = p;
  }

  -- nothing is spelled, and nothing is read
  pub part_fail : {b : Bool} {A : Type 0} {P : A → Type 0} {F : Text → Type 0} {e : ℕ} → Part room step b P (fail bad) (fail bad) Nothing F e
  part_fail {F = F} = record {
    exact = exact_word F word_fail;
    begins = record { no_slash = λ t next a z _ n. absurd z };
    agrees = agrees_same _;
    shallow = λ n w. shallow_calm n word_fail.calm;
    values = values_nothing;
    passes = passes_nothing;
  }

  pub part_means : {b : Bool} {A B : Type 0} {P : A → Type 0} {Q : B → Type 0} {q r : Reader A} {L : Lang A} {F : Text → Type 0} {e : ℕ} (f : A → Option B)
      → ((a : A) (b : B) → P a → f a ≡ Some b → Q b)
      → Part room step b P q r L F e → Part room step b Q (means q f) (means r f) (Means L f) F e
  part_means f k h = record {
    exact = exact_means _ _ _ f h.exact;
    begins = record { no_slash = λ t next b z. h.begins.no_slash t next z.value z.spelled };
    agrees = agrees_means f h.agrees;
    shallow = λ n w. shallow_means f (h.shallow n w);
    values = values_means k h.values;
    passes = passes_means h.passes;
  }

  pub part_needs : {b : Bool} {A : Type 0} {P : A → Type 0} {q r : Reader A} {L : Lang A} {F : Text → Type 0} {e : ℕ} (k m : ℕ) → m ≤ room → k ≤ e
      → Part room step b (λ a. k ≤ room → P a) q r L F e → Part room step b P (needs k m q) (needs k room r) (Needs k room L) F e
  part_needs k m le small h = record {
    exact = exact_needs k room _ _ _ h.exact;
    begins = record { no_slash = λ t next a z. h.begins.no_slash t next a z.1 };
    agrees = agrees_needs k m room le h.agrees;
    shallow = λ n w. shallow_needs k room (omega (arith, w, small)) (h.shallow n w);
    values = values_needs h.values;
    passes = passes_needs h.passes;
  }

  pub part_chain : {b : Bool} {A B : Type 0} {P : A → Type 0} {Q : B → Type 0} {q r : Reader A} {f g : A → Text → Reader B} {L : Lang A} {M : A → Text → Lang B}
      {F G : Text → Type 0} {e : ℕ}
      → Part room step b P q r L F e → ((a : A) (gap : Text) → Part room step b (λ b. P a → Q b) (f a gap) (g a gap) (M a gap) G e)
      → ((a : A) (gap right next : Text) (b : B) → LongGap gap (right ++ next) → M a gap right next b → G next → F (gap ++ (right ++ next)))
      → Part room step b Q (in_sequence q f) (in_sequence r g) (Then L M) G e
  part_chain h k follows = record {
    exact = exact_chain _ _ _ _ _ _ h.exact (λ a gap. (k a gap).exact) (λ a gap. (k a gap).begins) follows;
    begins = begins_then _ _ _ _ h.begins follows;
    agrees = agrees_chain h.agrees (λ a gap. (k a gap).agrees);
    shallow = λ n w. shallow_chain _ _ h.exact.sound (h.shallow n w) (λ a gap. (k a gap).shallow n w);
    values = values_then h.values (λ a gap. (k a gap).values);
    passes = passes_then h.passes (λ a gap. (k a gap).passes) follows;
  }

  -- where anything may follow the first
  pub part_then : {b : Bool} {A B : Type 0} {P : A → Type 0} {Q : B → Type 0} {q r : Reader A} {f g : A → Text → Reader B} {L : Lang A} {M : A → Text → Lang B}
      {G : Text → Type 0} {e : ℕ}
      → Part room step b P q r L Anything e → ((a : A) (gap : Text) → Part room step b (λ b. P a → Q b) (f a gap) (g a gap) (M a gap) G e)
      → Part room step b Q (in_sequence q f) (in_sequence r g) (Then L M) G e
  part_then h k = part_chain h k (λ _ _ _ _ _ _ _ _. tt)

  -- behind a word
  pub part_behind : {b : Bool} {A B : Type 0} {Q : B → Type 0} {r : Reader A} {f g : Text → Reader B} {L : Lang A} {M : Text → Lang B} {G : Text → Type 0}
      {e : ℕ}
      → IsWordReader r L → First (λ s. is_at 47 s ≡ false) L → Passes b L Anything → ((gap : Text) → Part room step b Q (f gap) (g gap) (M gap) G e)
      → Part room step b Q (in_sequence r (λ _ gap. f gap)) (in_sequence r (λ _ gap. g gap)) (Then L (λ _ gap. M gap)) G e
  part_behind h o p k = part_then (part_word h o p) (λ _ gap. part_weaker (λ b q _. q) (k gap))

  -- where what comes next tells the two apart
  pub part_choose : {b : Bool} {A : Type 0} {P : A → Type 0} (p : Text → Bool) {q r f g : Reader A} {L M : Lang A} {F : Text → Type 0} {e : ℕ}
      → First (λ s. p s ≡ true) L → First (λ s. p s ≡ false) M → Part room step b P q r L F e → Part room step b P f g M F e
      → Part room step b P (pick p q f) (pick p r g) (Or L M) F e
  part_choose p l m h k = record {
    exact = exact_choose p _ _ _ _ _ l m h.exact k.exact;
    begins = begins_or h.begins k.begins;
    agrees = agrees_pick p h.agrees k.agrees;
    shallow = λ n w. shallow_pick p (h.shallow n w) (k.shallow n w);
    values = values_or h.values k.values;
    passes = passes_or h.passes k.passes;
  }

  pub part_opt_comma : {A : Type 0} {P : A → Type 0} {e : ℕ} (a : A)
      → Part room step true (λ b. P a → P b) (opt_comma a) (opt_comma a) (OptComma a) (Before right_parenthesis) e
  part_opt_comma a = record {
    exact = exact_opt_comma a;
    begins = begins_opt_comma a;
    agrees = agrees_same _;
    shallow = λ n w. shallow_comma a n;
    values = values_opt_comma a;
    passes = passes_opt_comma a;
  }

  pub part_with_comma : {A : Type 0} {P : A → Type 0} {q r : Reader A} {L : Lang A} {e : ℕ} → Part room step false P q r L FollowsValue e
      → Part room step true P (with_comma q) (with_comma r) (WithComma L) (Before right_parenthesis) e
  part_with_comma {P = P} h = part_chain (part_commas true h) (λ a _. part_opt_comma {P = P} a) comma_follows

  pub part_items : {A : Type 0} {P : A → Type 0} (q r : List A → Text → Reader A) (L : List A → Text → Lang A) (close : ℕ) {e : ℕ} → is_delimiter close ≡ true
      → (close == comma) ≡ false
      → ((seen : List A) (before : Text) → Opens (L seen before))
      → ((seen : List A) (before : Text) → Part room step false P (q seen before) (r seen before) (L seen before) FollowsValue e)
      → (before : Text) → Part room step true (Each P) (items q close before) (items r close before) (Items L before) (Before close) e
  part_items q r L close s c o h before = record {
    exact = exact_items r L close s c (λ k gap. (h k gap).exact) o before;
    begins = begins_items L close s o before;
    agrees = agrees_items q r close (λ k gap. (h k gap).agrees) before;
    shallow = λ n w. shallow_items r L close n (λ k gap. (h k gap).exact.sound) (λ k gap. (h k gap).shallow n w) before;
    values = values_items L (λ k gap. (h k gap).values) before;
    passes = passes_items L close s (λ k gap. (h k gap).passes) before;
  }

  -- the opening character takes a step's room off
  pub part_group : {b : Bool} {A : Type 0} {P : A → Type 0} (o c : ℕ) {q r : Text → Reader A} {L : Text → Lang A} {F : Text → Type 0} {e : ℕ} (d : ℕ)
      → is_opening o ≡ true → is_closing c ≡ true → ((gap : Text) → Part room step true P (q gap) (r gap) (L gap) (Before c) e) → e ≤ step + d
      → Part room step b P (group o c q) (group o c r) (Group o c L) F d
  part_group o c {F = F} d opens closes h small = record {
    exact = exact_before Anything F (λ _ _. tt) (exact_group o c _ _ (apart is_closing 47 c refl closes) (λ gap. (h gap).exact) (λ gap. (h gap).begins));
    begins = begins_first F (first_then (first_mark _ o done (λ s. apart is_opening 47 o refl opens)));
    agrees = agrees_group o c (λ gap. (h gap).agrees);
    shallow = λ n w. shallow_behind o
        (λ m gap lt. shallow_chain _ _ (h gap).exact.sound ((h gap).shallow m (omega (arith, down step m n lt, w, small))) (λ a _. shallow_mark c a m));
    values = values_group (λ gap. (h gap).values);
    passes = passes_group o c opens closes (λ gap. (h gap).passes);
  }

  -- the reader function without any room
  pub part_deep : {b : Bool} {A : Type 0} {P : A → Type 0} {q r : Reader A} {L : Lang A} {F : Text → Type 0} {e : ℕ} → Part room step b P q r L F e
      → Part room step b P (fail deep) r L F e
  part_deep h = record { exact = h.exact; begins = h.begins; agrees = record { at = λ s. inr refl }; shallow = h.shallow; values = h.values; passes = h.passes }

-- one level further down, where another fact of the values is told
pub part_below : {room step : ℕ} {b : Bool} {A : Type 0} {P Q : A → Type 0} {q r : Reader A} {L : Lang A} {F : Text → Type 0} {d e : ℕ} → ((a : A) → P a → Q a)
    → Part room step b P q r L F d → d + 1 ≤ e → Part (suc room) step b Q q r L F e
part_below k h le = record {
  exact = h.exact;
  begins = h.begins;
  agrees = h.agrees;
  shallow = λ n w. h.shallow n (omega arith);
  values = record { are = λ t next a z. k a (h.values.are t next a z) };
  passes = h.passes;
}

-- no level is left
pub part_none : {step : ℕ} {b : Bool} {A : Type 0} {P : A → Type 0} {F : Text → Type 0} {e : ℕ} → 1 ≤ e → Part 0 step b P (fail deep) (fail deep) Nothing F e
part_none le = record {
  exact = record { sound = λ s b rest e. absurd (cc); complete = λ t next b l f n. absurd l };
  begins = record { no_slash = λ t next b z _ n. absurd z };
  agrees = agrees_same _;
  shallow = λ n w. absurd (omega (arith, w, le));
  values = values_nothing;
  passes = passes_nothing;
}

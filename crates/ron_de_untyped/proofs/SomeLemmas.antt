-- What a Some holds, beside the steps of the code: what is held, the way in over the Somes that hold one another, and the way out.
use Rattle.std.proofs.Common.{◌≡◌, ℕ, zero, suc, ◌+◌, ◌-◌, ◌<◌, ◌≤◌, Bool, true, false, List, length, drop, codes, ◌∷◌, ◌++◌, Some, None, MatchResult, Result, Ok, Err, IsUtf8, refl, sym, ap, subst, ◌∙◌, add-one, arith}
use Rattle.std.specs.Str.{chars}
use Rattle.std.proofs.lemmas.Bool.{and_parts, false≢true}
use Rattle.std.proofs.lemmas.Str.{length-le-encodes}
use Rattle.ron_spec_words.specs.Beyond.{bytes_in}
use Rattle.ron_spec_words.specs.Characters.{Text}
use Rattle.ron_spec_words.specs.Directly.{stands}
use Rattle.ron_spec_words.specs.Gap.{skip, gap_of}
use Rattle.ron_spec_words.specs.Reader.{Fault, deep, bad, Got, got, failed, Reader, mark, in_sequence, meant}
use Rattle.ron_spec_words.specs.Runs.{is_at}
use Rattle.ron_spec_words.proofs.Sizes.{size_chars}
use Rattle.ron_spec_words.proofs.Turns.{after_other}
use Rattle.ron_base.specs.declared.error.Error.{Error}
use Rattle.ron_base.specs.declared.error.Error.TheVariants.{OutOfMemory}
use Rattle.ron_base.specs.Class.{ErrorClass, other, class_of}
use Rattle.ron_base.specs.Limit.{one_deeper}
use Rattle.ron_lex.specs.Place.{Place}
use Rattle.ron_lex.specs.Turns.{Stays, Grows}
use Rattle.ron_lex.proofs.TurnLemmas.{grows_on}
use Rattle.ron_value.specs.declared.value.Value.{Value}
use Rattle.ron_value.specs.Tree.{Tree}
use Rattle.ron_value.specs.Tree as tree
use Rattle.ron_value.specs.View.{tree_of}
use Rattle.ron_spec_grammar.specs.Values.Grammar.{a_word, form, some_value, some_content, read_any}
use Rattle.ron_spec_grammar.specs.Values.Statement.{enough_for_value}
use Rattle.ron_spec_grammar.proofs.Values.Forms.{value_words}
use Rattle.ron_de_steps.specs.Conditions.{Conditions, IsDeeper}
use Rattle.ron_de_steps.specs.Errors.{IsMemoryOr}
use Rattle.ron_de_steps.specs.Reads.{IsFaultOf, Reads}
use Rattle.ron_de_steps.specs.Room.{IsRoom}
use Rattle.ron_de_steps.specs.Spends.{total_before, IsOpened}
use Rattle.ron_de_steps.specs.Steps.{past_mark, past_close, past_last_comma}
use Rattle.ron_de_steps.proofs.ErrorLemmas.{is_fault, fault_of, memory_or_more, text_and}
use Rattle.ron_de_steps.proofs.NearLemmas.{some_front}
use Rattle.ron_de_steps.proofs.RoomLemmas.{RoomBelow, room_less, room_below, room_ended}
use Rattle.ron_de_steps.proofs.StepLemmas.{marked, unmarked, closing, closing_at, ends_at, with_last}
use Rattle.ron_de_untyped.specs.Count.{SettlesBehind}
use Rattle.ron_de_untyped.specs.Order.{HoldsOrder}
use Rattle.ron_de_untyped.specs.Reading.{below_levels, read_held, read_some, read_word}
use Rattle.ron_de_untyped.specs.Somes.{closed, closed_within, closed_times, opens_some, IsOne, IsLast, held_within, EntersNext, AfterSomes}
use Rattle.ron_de_untyped.specs.Values.{unwraps, ReadsAny, ReadsHeld}
use Rattle.ron_de_untyped.specs.Words.{fixed_or, some_or}
use Rattle.ron_de_untyped.proofs.AnyTurns.{value_word, bare_one}
use Rattle.ron_de_untyped.proofs.FormLemmas.{not_some, not_fixed, word_fixed}
use Rattle.ron_de_untyped.proofs.ReadLemmas.{reads_same, deeper_same, no_last, last_read}
use Rattle.ron_de_untyped.proofs.SomeCounts.{behind_here, behind_then}

-- ---- the reader function, a step at a time

-- a Some of what is answered
abbrev a_some : Got Tree → Got Tree
a_some o = meant o some_value

-- what it holds and the closing parenthesis, in so much room
abbrev inside : Bool → ℕ → Text → Reader Tree
inside u room gap = in_sequence (some_content u (below_levels u room 0) gap) (λ a _. mark 41 a)

module _ (u : Bool) where
  pub some_nowhere : (room : ℕ) (s : Text) → past_mark 40 s ≡ None → read_some u room s ≡ failed bad
  unfolding read_some
  some_nowhere room s e = ap a_some (unmarked 40 (inside u room) s e)

  pub some_within : (room : ℕ) (s : Text) (p : Text × Text) → past_mark 40 s ≡ Some p → read_some u (suc room) s ≡ closed (read_held u room p.0 p.1)
  unfolding read_some read_held read_any
  some_within room s p e = ap a_some (marked 40 (inside u (suc room)) s p e)

pub some_deep : (u : Bool) (s : Text) (p : Text × Text) → past_mark 40 s ≡ Some p → read_some u 0 s ≡ failed deep
unfolding read_some
some_deep true s p e = ap a_some (marked 40 (inside true 0) s p e)
some_deep false s p e = ap a_some (marked 40 (inside false 0) s p e)

pub held_bare : (u : Bool) (room : ℕ) (before s : Text) → u ≡ true → read_held u room before s ≡ read_any u room u before s
unfolding read_held
held_bare true room before s e = refl
held_bare false room before s e = absurd (cc)

pub held_open : (u : Bool) (room : ℕ) (before s : Text) → u ≡ false → read_held u room before s ≡ with_last (read_any u room u before s)
unfolding read_held
held_open true room before s e = absurd (cc)
held_open false room before s e = refl

-- one value
held_one : (u : Bool) (room : ℕ) (before s : Text) → is_at 41 s ≡ false → IsOne u s → read_held u room before s ≡ with_last (read_any u room false before s)
unfolding read_held
held_one true room before s e one = bare_one true room before s e (one refl).0 (one refl).1
held_one false room before s e one = refl

-- ---- what is held

held_fault : (u : Bool) (room : ℕ) (before s : Text) (k : ErrorClass) → IsFaultOf k (read_any u room u before s) → IsFaultOf k (read_held u room before s)
held_fault true room before s k h = subst (IsFaultOf k) (sym (held_bare true room before s refl)) h
held_fault false room before s k h = fault_of k (read_any false room false before s) (read_held false room before s) (λ f e. held_open false room before s refl ∙ ap with_last e) h

held_bound : (b : Bool) (n : ℕ) → enough_for_value b n ≤ enough_for_value true n
held_bound true n = omega arith
held_bound false n = omega arith

module _ (x : Conditions) (place : Place) (bare : Bool) (is : bare ≡ unwraps x) where
  held_room : (room : ℕ) → IsRoom x.limit (enough_for_value true (length place.rest)) room → IsRoom x.limit (enough_for_value (unwraps x) (length place.rest)) room
  held_room room r = room_less x.limit _ _ room r (held_bound (unwraps x) (length place.rest))

  held_any : (result : Result Value Error) (rest : Text) → ReadsAny x bare place result rest → ReadsAny x (unwraps x) place result rest
  held_any result rest h = subst (λ (b : Bool). ReadsAny x b place result rest) is h

  pub held_fails : (e : Error) (rest : Text) → ReadsAny x bare place (Err e) rest → ReadsHeld x place (Err e) rest
  held_fails e rest h room r = held_fault (unwraps x) room place.gap place.rest (class_of e) (held_any (Err e) rest h room (held_room room r))

  module _ (v : Value) (rest : Text) (h : ReadsAny x bare place (Ok v) rest) where
    pub held_as_bare : bare ≡ true → ReadsHeld x place (Ok v) rest
    held_as_bare e room r = held_bare (unwraps x) room place.gap place.rest (sym is ∙ e) ∙ held_any (Ok v) rest h room (held_room room r)

    module _ (n : bare ≡ false) where
      pub held_no_end : (e : Error) (end : Text) → IsMemoryOr (past_last_comma rest ≡ None) e → ReadsHeld x place (Err e) end
      held_no_end e end k room r = no_last _ _ (held_open (unwraps x) room place.gap place.rest (sym is ∙ n)) (tree_of v) rest (held_any (Ok v) rest h room (held_room room r)) e k

      pub held_read : (end : Text) → past_last_comma rest ≡ Some end → ReadsHeld x place (Ok v) end
      held_read end k room r = last_read _ _ (held_open (unwraps x) room place.gap place.rest (sym is ∙ n)) (tree_of v) rest (held_any (Ok v) rest h room (held_room room r)) end k

-- ---- no further Some

pub other_front : (bare : Bool) (s : Text) → is_at 83 s ≡ false → IsLast bare s
other_front bare s n opens one = false≢true (sym n ∙ ap (λ (t : Text). is_at 83 t) (some_front s (and_parts (stands (codes "Some") s) _ opens).0))

pub none_opens : (bare : Bool) (s t : Text) → t ≡ s → false ≡ opens_some s → IsLast bare t
none_opens bare s t e n opens one = false≢true (n ∙ sym (ap opens_some e) ∙ opens)

-- ---- a Some as all that is held

module _ (s : Text) (h : stands (codes "Some") s ≡ true) where
  front : s ≡ codes "Some" ++ drop 4 s
  front = some_front s h

  as_word : form s ≡ a_word
  as_word = ap form front ∙ value_words.3.0 (drop 4 s)

  no_close : is_at 41 s ≡ false
  no_close = ap (λ (t : Text). is_at 41 t) front

  no_fixed : (held : Reader Tree) → fixed_or held s ≡ held s
  no_fixed held = subst (λ (t : Text). fixed_or held t ≡ held t) (sym front) refl

  some_stands : (held instead : Reader Tree) (rest : Text) → skip (drop 4 s) ≡ 40 ∷ rest → some_or held instead s ≡ held (40 ∷ rest)
  some_stands held instead rest f = rw h (after_other (λ _. held) (drop 4 s) (ap (λ (t : Text). is_at 47 t) f) ∙ ap held f)

  some_here : (u : Bool) (room : ℕ) (rest : Text) → skip (drop 4 s) ≡ 40 ∷ rest → read_word u room s ≡ read_some u room (40 ∷ rest)
  some_here u room rest f = word_fixed u room s s (read_some u room (40 ∷ rest)) (no_fixed (not_fixed u room) ∙ some_stands (read_some u room) (not_some u room) rest f)

-- behind the parenthesis, its gap, or a slash that stands there
past : (rest : Text) → is_at 47 (skip rest) ≡ false → past_mark 40 (40 ∷ rest) ≡ Some (gap_of rest, skip rest)
past rest e = rw e refl

not_past : (rest : Text) → is_at 47 (skip rest) ≡ true → past_mark 40 (40 ∷ rest) ≡ None
not_past rest e = rw e refl

module _ (u : Bool) (before s rest : Text) (one : IsOne u s) (h : stands (codes "Some") s ≡ true) (f : skip (drop 4 s) ≡ 40 ∷ rest) where
  held_some : (room : ℕ) → read_held u room before s ≡ with_last (read_some u room (40 ∷ rest))
  held_some room = held_one u room before s (no_close s h) one ∙ ap with_last (value_word u room before s (as_word s h) ∙ some_here s h u room rest f)

  goes_within : (room : ℕ) → is_at 47 (skip rest) ≡ false → with_last (read_some u room (40 ∷ rest)) ≡ held_within u room (gap_of rest) (skip rest)
  goes_within zero e = ap with_last (some_deep u (40 ∷ rest) (gap_of rest, skip rest) (past rest e))
  goes_within (suc room) e = ap with_last (some_within u room (40 ∷ rest) (gap_of rest, skip rest) (past rest e))

  held_next : (gap inner : Text) → is_at 47 (skip rest) ≡ false → gap ≡ gap_of rest → inner ≡ skip rest → (room : ℕ) → read_held u room before s ≡ held_within u room gap inner
  held_next gap inner e g i room = held_some room ∙ goes_within room e ∙ ap (λ (t : Text). held_within u room t (skip rest)) (sym g) ∙ ap (λ (t : Text). held_within u room gap t) (sym i)

  held_slash : is_at 47 (skip rest) ≡ true → (room : ℕ) → read_held u room before s ≡ failed bad
  held_slash e room = held_some room ∙ ap with_last (some_nowhere u room (40 ∷ rest) (not_past rest e))

module _ (u : Bool) (old mid there : Place) (s : Stays old mid) (one : IsOne u old.rest) (h : stands (codes "Some") mid.rest ≡ true) (f : skip (drop 4 mid.rest) ≡ 40 ∷ there.rest) where
  word_there : stands (codes "Some") old.rest ≡ true
  word_there = subst (λ (t : Text). stands (codes "Some") t ≡ true) s.rest h

  mark_there : skip (drop 4 old.rest) ≡ 40 ∷ there.rest
  mark_there = subst (λ (t : Text). skip (drop 4 t) ≡ 40 ∷ there.rest) s.rest f

  pub enters_next : (new : Place) → is_at 47 (skip there.rest) ≡ false → new.gap ≡ gap_of there.rest → new.rest ≡ skip there.rest → (room : ℕ) → read_held u room old.gap old.rest ≡ held_within u room new.gap new.rest
  enters_next new e g i room = held_next u old.gap old.rest there.rest one word_there mark_there new.gap new.rest e g i room

  pub enters_nothing : (e : Error) → class_of e ≡ other → is_at 47 (skip there.rest) ≡ true → IsMemoryOr ((room : ℕ) → read_held u room old.gap old.rest ≡ failed bad) e
  enters_nothing e c k = text_and e c (held_slash u old.gap old.rest there.rest one word_there mark_there k)

-- whether there is one, as it is told
module _ (u b : Bool) (old new : Place) (h : EntersNext u old (Ok b) new) where
  pub entered : b ≡ true → (room : ℕ) → read_held u room old.gap old.rest ≡ held_within u room new.gap new.rest
  entered e = subst (λ (z : Bool). EntersNext u old (Ok z) new) e h

  pub stayed : b ≡ false → Stays old new
  stayed e = subst (λ (z : Bool). EntersNext u old (Ok z) new) e h

-- ---- the way in

-- the characters of a text are no more than its bytes
pub size_enough : (bytes : List ℕ) (s : Text) → IsUtf8 bytes → chars bytes ≡ s → length s ≤ length bytes
unfolding bytes_in
size_enough bytes s u e =
    let most : length s ≤ bytes_in s = length-le-encodes s in
    let same : bytes_in (chars bytes) ≡ bytes_in s = ap bytes_in e in
    omega (arith, most, same, size_chars bytes u)

closed_failed : (depth : ℕ) (f : Fault) → closed_times depth (failed f) ≡ failed f
closed_failed zero f = refl
closed_failed (suc k) f = closed_failed k f

closed_more : (depth : ℕ) (o : Got Tree) → closed_times (depth + 1) o ≡ closed_times depth (closed_within o)
closed_more depth o = ap (λ n. closed_times n o) (add-one depth)

-- So far: so many Somes further in, each of which took a character, and no more was counted than is allowed where the first begins.
pub record GoesIn (depth size : ℕ) (outer : Conditions) (first : Place) (inner : Conditions) (last : Place) : Type 0 where
  pub text : last.text ≡ first.text
  pub extensions : inner.extensions ≡ outer.extensions
  pub counted : depth + length last.rest ≤ size
  pub no_longer : length last.rest ≤ length first.rest
  pub grows : Grows first last
  pub after : (room : ℕ) → IsRoom outer.limit (enough_for_value true (length first.rest)) room → AfterSomes depth outer first inner last room
  pub turns : IsOpened first → (c k : ℕ) → 1 ≤ c → total_before c k 3 last ≤ total_before c k 3 first
  pub opens : IsOpened first → IsOpened last

pub goes_begin : (size : ℕ) (x : Conditions) (place : Place) → length place.rest ≤ size → GoesIn 0 size x place x place
goes_begin size x place fits = record {
  text = refl;
  extensions = refl;
  counted = omega (arith, fits);
  no_longer = omega arith;
  grows = omega arith;
  after = λ room r. record { left = room; is_room = r; is = refl };
  turns = λ o c k i. omega arith;
  opens = λ o. o;
}

module _ {depth size : ℕ} {outer : Conditions} {first : Place} {inner : Conditions} {last : Place} (h : GoesIn depth size outer first inner last) where
  -- what is unwrapped stays so
  same_unwraps : unwraps inner ≡ unwraps outer
  same_unwraps = ap (λ s. s.unwrap_variant_newtypes) h.extensions

  -- what holds in each room that the limit leaves at the first place
  abbrev InRooms : (ℕ → Type 0) → Type 0
  InRooms P = (room : ℕ) → IsRoom outer.limit (enough_for_value true (length first.rest)) room → P room

  abbrev NothingHere : Type 0
  NothingHere = (room : ℕ) → read_held (unwraps inner) room last.gap last.rest ≡ failed bad

  pub goes_refused : (e : Error) → IsMemoryOr NothingHere e → InRooms (λ room. IsFaultOf (class_of e) (read_held (unwraps outer) room first.gap first.rest))
  goes_refused e m room r =
      let a = h.after room r in
      is_fault (class_of e) _ (memory_or_more {P = NothingHere} e (λ n. a.is ∙ ap (closed_times depth) (ap (λ u. read_held u a.left last.gap last.rest) (sym same_unwraps) ∙ n a.left) ∙ closed_failed depth bad) m)

  -- a further one
  module _ (next : Place) (is : (room : ℕ) → read_held (unwraps inner) room last.gap last.rest ≡ held_within (unwraps inner) room next.gap next.rest) where
    goes_there : (room : ℕ) → read_held (unwraps outer) room last.gap last.rest ≡ held_within (unwraps outer) room next.gap next.rest
    goes_there = subst (λ (u : Bool). (room : ℕ) → read_held u room last.gap last.rest ≡ held_within u room next.gap next.rest) same_unwraps is

    pub goes_ended : one_deeper inner.limit ≡ None → InRooms (λ room. read_held (unwraps outer) room first.gap first.rest ≡ failed deep)
    goes_ended e room r =
        let a = h.after room r in
        a.is ∙ ap (closed_times depth) (ap (λ n. read_held (unwraps outer) n last.gap last.rest) (room_ended inner.limit _ a.left e a.is_room) ∙ goes_there 0) ∙ closed_failed depth deep

    pub goes_on : (deeper : Conditions) → IsDeeper inner deeper → next.text ≡ last.text → length next.rest < length last.rest → Grows last next
        → (IsOpened last → (c k : ℕ) → 1 ≤ c → total_before c k 3 next ≤ total_before c k 3 last) → (IsOpened last → IsOpened next)
        → GoesIn (depth + 1) size outer first deeper next
    goes_on deeper d e shorter grown counts opened = record {
      text = e ∙ h.text;
      extensions = d.0 ∙ h.extensions;
      counted = let n = h.counted in omega (arith, n, shorter);
      no_longer = let n = h.no_longer in omega (arith, n, shorter);
      grows = grows_on first last next h.grows grown;
      after = λ room r.
          let a = h.after room r in
          let k = room_below inner.limit deeper.limit (enough_for_value true (length next.rest)) _ a.left d.1 a.is_room (omega (arith, shorter)) in
          record {
            left = k.left;
            is_room = k.is_room;
            is = a.is ∙ ap (closed_times depth) (ap (λ n. read_held (unwraps outer) n last.gap last.rest) k.is ∙ goes_there (suc k.left)) ∙ sym (closed_more depth (read_held (unwraps outer) k.left next.gap next.rest));
          };
      turns = λ o c k i. let n = counts (h.opens o) c k i in let t = h.turns o c k i in omega (arith, n, t);
      opens = λ o. opened (h.opens o);
    }

  -- none further
  pub goes_end : (new : Place) → Stays last new → InRooms (λ room. AfterSomes depth outer first inner new room)
  goes_end new s room r =
      let a = h.after room r in
      record {
        left = a.left;
        is_room = subst (λ (t : Text). IsRoom inner.limit (enough_for_value true (length t)) a.left) (sym s.rest) a.is_room;
        is = a.is ∙ ap (closed_times depth) (ap (λ (g : Text). read_held (unwraps outer) a.left g last.rest) (sym s.gap) ∙ ap (λ (t : Text). read_held (unwraps outer) a.left new.gap t) (sym s.rest));
      }

  pub goes_count : (m : Place → ℕ → ℕ → ℕ) (new : Place) → (IsOpened last → (c k : ℕ) → 1 ≤ c → m new c k ≤ total_before c k 3 last) → IsOpened first → (c k : ℕ) → 1 ≤ c → m new c k ≤ total_before c k 3 first
  goes_count m new e o c k i = let n = e (h.opens o) c k i in let t = h.turns o c k i in omega (arith, n, t)

-- ---- a Some from behind its word on

module _ (x : Conditions) (place : Place) (room : ℕ) where
  abbrev the_some : Got Tree
  the_some = read_some (unwraps x) room place.rest

  pub some_unopened : (e : Error) → IsMemoryOr (past_mark 40 place.rest ≡ None) e → IsFaultOf (class_of e) the_some
  some_unopened e k = is_fault (class_of e) _ (memory_or_more e (λ n. some_nowhere (unwraps x) room place.rest n) k)

  module _ (r : IsRoom x.limit (enough_for_value false (length place.rest)) room) (next : Place) (p : past_mark 40 place.rest ≡ Some (next.gap, next.rest)) (shorter : length next.rest < length place.rest) where
    pub some_ended : one_deeper x.limit ≡ None → the_some ≡ failed deep
    some_ended e = ap (λ k. read_some (unwraps x) k place.rest) (room_ended x.limit _ room e r) ∙ some_deep (unwraps x) place.rest (next.gap, next.rest) p

    module _ (deeper : Conditions) (d : IsDeeper x deeper) where
      -- the room of what is held
      below : RoomBelow deeper.limit (enough_for_value true (length next.rest)) room
      below = room_below x.limit deeper.limit (enough_for_value true (length next.rest)) _ room d.1 r (omega (arith, shorter))

      is_closed : the_some ≡ closed (read_held (unwraps deeper) below.left next.gap next.rest)
      is_closed =
          ap (λ k. read_some (unwraps x) k place.rest) below.is ∙ some_within (unwraps x) below.left place.rest (next.gap, next.rest) p
          ∙ ap (λ u. closed (read_held u below.left next.gap next.rest)) (deeper_same x deeper d)

      pub some_not_entered : (e : Error) → ((left : ℕ) → IsRoom deeper.limit (enough_for_value true (length next.rest)) left → IsFaultOf (class_of e) (read_held (unwraps deeper) left next.gap next.rest)) → IsFaultOf (class_of e) the_some
      some_not_entered e h = fault_of (class_of e) _ _ (λ f k. is_closed ∙ ap closed k) (h below.left below.is_room)

      module _ (depth : ℕ) (inner : Conditions) (last : Place) (same : inner.extensions ≡ deeper.extensions)
          (enters : (left : ℕ) → IsRoom deeper.limit (enough_for_value true (length next.rest)) left → AfterSomes depth deeper next inner last left) where
        after : AfterSomes depth deeper next inner last below.left
        after = enters below.left below.is_room

        is_times : the_some ≡ closed (closed_times depth (read_held (unwraps inner) after.left last.gap last.rest))
        is_times = is_closed ∙ ap closed (after.is ∙ ap (λ u. closed_times depth (read_held u after.left last.gap last.rest)) (ap (λ s. s.unwrap_variant_newtypes) (sym same)))

        pub some_unread : (e : Error) (rest : Text) → ReadsHeld inner last (Err e) rest → IsFaultOf (class_of e) the_some
        some_unread e rest h = fault_of (class_of e) _ _ (λ f k. is_times ∙ ap (λ o. closed (closed_times depth o)) k ∙ ap closed (closed_failed depth f)) (h after.left after.is_room)

        pub some_read : (v : Value) (s : Text) → ReadsHeld inner last (Ok v) s → (result : Result Value Error) (rest : Text) → Reads tree_of result (closed (closed_times depth (got (tree_of v) s))) rest → Reads tree_of result the_some rest
        some_read v s h result rest k = reads_same tree_of result _ _ rest (is_times ∙ ap (λ o. closed (closed_times depth o)) (h after.left after.is_room)) k

-- ---- the way out

-- a Some of what was read
some_made : (X : Type 0) (result : Result Value Error) (t : Tree) (whole part : Got Tree) (rest : Text) → whole ≡ meant part some_value → part ≡ got t rest
    → MatchResult result (λ v. tree_of v ≡ tree.some t) (λ e. (e ≡ OutOfMemory) × X) → Reads tree_of result whole rest
some_made X (Ok v) t whole part rest w p h = w ∙ ap (λ o. meant o some_value) p ∙ ap (λ x. got x rest) (sym h)
some_made X (Err e) t whole part rest w p h = subst (λ (x : Error). IsFaultOf (class_of x) whole) (sym h.0) tt

module _ (t : Tree) (rest : Text) where
  pub not_closed : (e : Error) → IsMemoryOr (past_close 41 rest ≡ None) e → IsFaultOf (class_of e) (closed (got t rest))
  not_closed e k = is_fault (class_of e) _ (memory_or_more e (λ n. ap a_some (closing_at 41 t rest ∙ ap (ends_at t) n)) k)

  pub closed_made : (X : Type 0) (result : Result Value Error) (end : Text) → past_close 41 rest ≡ Some end → MatchResult result (λ v. tree_of v ≡ tree.some t) (λ e. (e ≡ OutOfMemory) × X) → Reads tree_of result (closed (got t rest)) end
  closed_made X result end p h = some_made X result t (closed (got t rest)) (closing 41 (got t rest)) end refl (closing_at 41 t rest ∙ ap (ends_at t) p) h

-- one of those that are left
closed_once : (n : ℕ) → 0 < n → (o : Got Tree) → closed_times n o ≡ closed_times (n - 1) (closed_within o)
closed_once zero lt o = absurd (omega arith)
closed_once (suc k) lt o = let e : k ≡ suc k - 1 = omega arith in ap (λ n. closed_times n (closed_within o)) e

closed_none : (n : ℕ) → n ≤ 0 → (o : Got Tree) → closed_times n o ≡ o
closed_none zero le o = refl
closed_none (suc k) le o = absurd (omega arith)

-- So far: so many Somes are left to be closed, and what that makes is what all make.
pub record GoesOut (left depth : ℕ) (first : Place) (all : Value) (last : Place) (held : Value) : Type 0 where
  pub text : last.text ≡ first.text
  pub no_longer : length last.rest ≤ length first.rest
  pub grows : Grows first last
  pub ordered : HoldsOrder held
  pub is : closed_times depth (got (tree_of all) first.rest) ≡ closed_times left (got (tree_of held) last.rest)
  pub turns : SettlesBehind {E = Error} first (Ok held) last

pub out_begin : (depth : ℕ) (place : Place) (v : Value) → HoldsOrder v → GoesOut depth depth place v place v
out_begin depth place v o = record { text = refl; no_longer = omega arith; grows = omega arith; ordered = o; is = refl; turns = behind_here place v }

module _ {left depth : ℕ} {first : Place} {all : Value} {last : Place} {held : Value} (h : GoesOut left depth first all last held) where
  module _ (lt : 0 < left) where
    pub out_fails : (e : Error) → IsFaultOf (class_of e) (closed_within (got (tree_of held) last.rest)) → IsFaultOf (class_of e) (closed (closed_times depth (got (tree_of all) first.rest)))
    out_fails e k = fault_of (class_of e) _ _ (λ f n. ap closed (h.is ∙ closed_once left lt (got (tree_of held) last.rest) ∙ ap (closed_times (left - 1)) n ∙ closed_failed (left - 1) f)) k

    pub out_on : (v : Value) (next : Place) → closed_within (got (tree_of held) last.rest) ≡ got (tree_of v) next.rest → next.text ≡ last.text → length
        next.rest ≤ length last.rest → Grows last next → HoldsOrder v → SettlesBehind {E = Error} last (Ok v) next → GoesOut (left - 1) depth first all next v
    out_on v next e t le grown o counts = record {
      text = t ∙ h.text;
      no_longer = let n = h.no_longer in omega (arith, n, le);
      grows = grows_on first last next h.grows grown;
      ordered = o;
      is = h.is ∙ closed_once left lt (got (tree_of held) last.rest) ∙ ap (closed_times (left - 1)) e;
      turns = behind_then first last next held (Ok v) h.turns counts;
    }

  pub out_end : left ≤ 0 → (result : Result Value Error) (rest : Text) → Reads tree_of result (closed (got (tree_of held) last.rest)) rest → Reads tree_of result (closed (closed_times depth (got (tree_of all) first.rest))) rest
  out_end le result rest k = reads_same tree_of result _ _ rest (ap closed (h.is ∙ closed_none left le (got (tree_of held) last.rest))) k

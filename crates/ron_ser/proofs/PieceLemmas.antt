-- Pieces that are written, and put together: one lemma for each way that a layout is made of layouts.
use Rattle.std.proofs.Common.{◌≡◌, ℕ, max, Bool, true, false, ◌&&◌, cond, Result, Ok, Err, Option, None, Some, List, ◌++◌, refl, sym, ap, subst, ◌∙◌, arith}
use Rattle.std.specs.Option.{option_or}
use Rattle.std.specs.Fmt.{WritesInCalls}
use Rattle.std.proofs.lemmas.Bool.{and_from, and_right}
use Rattle.ron_spec_words.specs.Characters.{Text}
use Rattle.ron_spec_words.specs.Name.{is_name}
use Rattle.ron_spec_grammar.specs.Data as tree
use Rattle.ron_base.specs.Limit.{one_deeper, IsWithin}
use Rattle.ron_base_device.specs.Begun.{HasBegun}
use Rattle.ron_ser.specs.Place.{Place}
use Rattle.ron_ser.specs.declared.refusal.Refusal.{Refusal}
use Rattle.ron_ser.specs.declared.refusal.Refusal.TheVariants.{Depth}
use Rattle.ron_ser.specs.Refusal.{RefusesName}
use Rattle.ron_ser.specs.Piece.{Piece, IsWritten, IsStopped, Tries, value_piece, plain, deeper, enclosed}
use Rattle.ron_ser.proofs.Pieces.{both}
use Rattle.ron_ser.proofs.LimitLemmas.{within_less, within_max, within_zero, within_deeper, within_inner, within_spent}
use Rattle.ron_ser.proofs.RefusalLemmas.{refuses_wider, refuses_name, holds_refused, holds_same}
use Rattle.ron_ser.proofs.FrontLemmas.{begun_not, begun_behind, begun_longer}

-- ---- forms of pieces

-- behind these bytes
unfoldable pub behind : List ℕ → Piece → Piece
behind a p = record { bytes = a ++ p.bytes; names = p.names; refused = p.refused; depth = p.depth; encodable = p.encodable }

-- behind a name, as it is written or left out
unfoldable pub named : List ℕ → Text → Piece → Piece
named a name p = record {
  bytes = a ++ p.bytes;
  names = is_name name && p.names;
  refused = cond (is_name name) p.refused (Some name);
  depth = p.depth;
  encodable = p.encodable;
}

-- before these bytes
unfoldable pub ended : Piece → List ℕ → Piece
ended p b = record { bytes = p.bytes ++ b; names = p.names; refused = p.refused; depth = p.depth; encodable = p.encodable }

-- a key, what stands between, and a value
unfoldable pub keyed : Piece → List ℕ → Piece → Piece
keyed p colon q = record {
  bytes = p.bytes ++ (colon ++ q.bytes);
  names = p.names && q.names;
  refused = option_or p.refused q.refused;
  depth = max p.depth q.depth;
  encodable = p.encodable && q.encodable;
}

abbrev pub piece_of : List ℕ → Bool → Option Text → ℕ → Bool → Piece
piece_of bytes names refused depth encodable = record { bytes = bytes; names = names; refused = refused; depth = depth; encodable = encodable }

pub same_piece : (a b : List ℕ) (m n : Bool) (f g : Option Text) (i j : ℕ) (u v : Bool) → a ≡ b → m ≡ n → f ≡ g → i ≡ j → u ≡ v
    → piece_of a m f i u ≡ piece_of b n g j v
same_piece a b m n f g i j u v p q r s t = rw (p, q, r, s, t) refl

module _ {W : Type 0} (took : W → List ℕ → W → Type 0) (limit : Option ℕ) where
  -- ---- a piece that is another one

  pub written_eq : {w v : W} {p q : Piece} → p ≡ q → IsWritten took limit w q v → IsWritten took limit w p v
  written_eq {w = w} {v = v} i h = subst (λ p. IsWritten took limit w p v) (sym i) h

  pub stopped_eq : {w v : W} {p q : Piece} {e : Refusal} → p ≡ q → IsStopped took limit w q v e → IsStopped took limit w p v e
  stopped_eq {w = w} {v = v} {e = e} i h = subst (λ p. IsStopped took limit w p v e) (sym i) h

  pub tries_eq : (w v : W) {p q : Piece} (r : Result (Unit {0}) Refusal) → p ≡ q → Tries took limit w q v r → Tries took limit w p v r
  tries_eq w v r i h = subst (λ p. Tries took limit w p v r) (sym i) h

  -- ---- what holds no names and no values

  pub leaf_written : {w v : W} {a : List ℕ} {encodable : Bool} → WritesInCalls took w a v → encodable ≡ true
      → IsWritten took limit w (piece_of a true None 0 encodable) v
  leaf_written h k = record { text = h; names = refl; clear = refl; within = within_zero limit; encodable = k }

  pub plain_written : {w v : W} {a : List ℕ} → WritesInCalls took w a v → IsWritten took limit w (plain a) v
  plain_written h = leaf_written h refl

  -- ---- behind bytes, and between them

  pub behind_written : {w v u : W} {a : List ℕ} {p : Piece} → WritesInCalls took w a v → IsWritten took limit v p u → IsWritten took limit w (behind a p) u
  unfolding behind
  behind_written h k = record { text = both took _ _ _ _ _ h k.text; names = k.names; clear = k.clear; within = k.within; encodable = k.encodable }

  pub behind_stopped : {w v u : W} {a : List ℕ} {p : Piece} {e : Refusal} → WritesInCalls took w a v → IsStopped took limit v p u e
      → IsStopped took limit w (behind a p) u e
  unfolding behind
  behind_stopped {e = e} h k = record { refused = k.refused; refused_name = k.refused_name; beginning = begun_behind took _ _ _ _ _ h k.beginning }

  pub enclosed_written : {w v u z : W} {a b : List ℕ} {p : Piece} → WritesInCalls took w a v → IsWritten took limit v p u → WritesInCalls took u b z
      → IsWritten took limit w (enclosed a p b) z
  enclosed_written h k l =
      record { text = both took _ _ _ _ _ h (both took _ _ _ _ _ k.text l); names = k.names; clear = k.clear; within = k.within; encodable = k.encodable }

  pub enclosed_stopped : {w v u : W} {a : List ℕ} {p : Piece} (b : List ℕ) {e : Refusal} → WritesInCalls took w a v → IsStopped took limit v p u e
      → IsStopped took limit w (enclosed a p b) u e
  enclosed_stopped b {e = e} h k =
      record { refused = k.refused; refused_name = k.refused_name; beginning = begun_behind took _ _ _ _ _ h (begun_longer took _ _ b _ k.beginning) }

  -- ---- before bytes

  pub ended_written : {w v u : W} {p : Piece} {b : List ℕ} → IsWritten took limit w p v → WritesInCalls took v b u → IsWritten took limit w (ended p b) u
  unfolding ended
  ended_written h k = record { text = both took _ _ _ _ _ h.text k; names = h.names; clear = h.clear; within = h.within; encodable = h.encodable }

  pub ended_stopped : {w v : W} {p : Piece} (b : List ℕ) {e : Refusal} → IsStopped took limit w p v e → IsStopped took limit w (ended p b) v e
  unfolding ended
  ended_stopped b {e = e} h = record { refused = h.refused; refused_name = h.refused_name; beginning = begun_longer took _ _ b _ h.beginning }

  -- ---- behind a name

  pub named_written : {w v u : W} {a : List ℕ} {p : Piece} (name : Text) → WritesInCalls took w a v → is_name name ≡ true → IsWritten took limit v p u
      → IsWritten took limit w (named a name p) u
  unfolding named
  named_written name h n k =
      record { text = both took _ _ _ _ _ h k.text; names = and_from _ _ n k.names; clear = rw n k.clear; within = k.within; encodable = k.encodable }

  pub named_stopped : {w v u : W} {a : List ℕ} {p : Piece} (name : Text) {e : Refusal} → WritesInCalls took w a v → is_name name ≡ true
      → IsStopped took limit v p u e → IsStopped took limit w (named a name p) u e
  unfolding named
  named_stopped {p = p} name {e = e} h n k = record {
    refused = refuses_wider e (λ z. ap (λ b. is_name name && b) z ∙ and_right (is_name name) false refl) (λ z. z) k.refused;
    refused_name = holds_same {part = p.refused} e (λ t z. rw n z) k.refused_name;
    beginning = begun_behind took _ _ _ _ _ h k.beginning;
  }

  pub named_tries : {w v : W} (u : W) {a : List ℕ} (p : Piece) (name : Text) (r : Result (Unit {0}) Refusal) → WritesInCalls took w a v → is_name name ≡ true
      → Tries took limit v p u r → Tries took limit w (named a name p) u r
  named_tries u p name (Ok x) h n k = named_written name h n k
  named_tries u p name (Err e) h n k = named_stopped name h n k

  -- the name itself is refused
  pub name_stopped : {w v : W} (a : List ℕ) (p : Piece) (name : Text) (e : Refusal) → RefusesName name e → v ≡ w → IsStopped took limit w (named a name p) v e
  unfolding named
  name_stopped {w = w} a p name e h same = record {
    refused = refuses_name name (IsWithin limit p.depth) e (λ z. ap (λ b. b && p.names) z) h;
    refused_name = holds_refused name e (λ z. rw z refl) h;
    beginning = subst (λ o. HasBegun took w (a ++ p.bytes) o) (sym same) (begun_not took w (a ++ p.bytes));
  }

  -- ---- one level deeper

  pub deeper_written : {inner : Option ℕ} {w v : W} {p : Piece} → one_deeper limit ≡ Some inner → IsWritten took inner w p v
      → IsWritten took limit w (deeper p) v
  deeper_written l k = record { text = k.text; names = k.names; clear = k.clear; within = within_deeper limit _ _ l k.within; encodable = k.encodable }

  pub deeper_stopped : {inner : Option ℕ} {w v : W} {p : Piece} {e : Refusal} → one_deeper limit ≡ Some inner → IsStopped took inner w p v e
      → IsStopped took limit w (deeper p) v e
  deeper_stopped {e = e} l k =
      record { refused = refuses_wider e (λ z. z) (λ z. within_inner limit _ _ l z) k.refused; refused_name = k.refused_name; beginning = k.beginning }

  pub deeper_tries : {inner : Option ℕ} (w v : W) (p : Piece) (r : Result (Unit {0}) Refusal) → one_deeper limit ≡ Some inner → Tries took inner w p v r
      → Tries took limit w (deeper p) v r
  deeper_tries w v p (Ok x) l k = deeper_written l k
  deeper_tries w v p (Err e) l k = deeper_stopped l k

  -- no level is left
  pub level_stopped : (w : W) (p : Piece) → one_deeper limit ≡ None → IsStopped took limit w (deeper p) w Depth
  level_stopped w p h = record { refused = within_spent limit p.depth h; refused_name = tt; beginning = begun_not took w p.bytes }

  -- ---- a key and a value

  pub keyed_written : {w v z u : W} {p q : Piece} {colon : List ℕ} → IsWritten took limit w p v → WritesInCalls took v colon z → IsWritten took limit z q u
      → IsWritten took limit w (keyed p colon q) u
  unfolding keyed
  keyed_written {p = p} {q = q} h c k = record {
    text = both took _ _ _ _ _ h.text (both took _ _ _ _ _ c k.text);
    names = and_from _ _ h.names k.names;
    clear = rw h.clear k.clear;
    within = within_max limit p.depth q.depth h.within k.within;
    encodable = and_from _ _ h.encodable k.encodable;
  }

  pub key_stopped : {w v : W} {p : Piece} (colon : List ℕ) (q : Piece) {e : Refusal} → IsStopped took limit w p v e
      → IsStopped took limit w (keyed p colon q) v e
  unfolding keyed
  key_stopped {p = p} colon q {e = e} h = record {
    refused = refuses_wider e (λ z. ap (λ b. b && q.names) z) (within_less limit p.depth (max p.depth q.depth) (omega arith)) h.refused;
    refused_name = holds_same {part = p.refused} e (λ t z. ap (λ r. option_or r q.refused) z) h.refused_name;
    beginning = begun_longer took _ _ (colon ++ q.bytes) _ h.beginning;
  }

  pub keyed_stopped : {w v z u : W} {p q : Piece} {colon : List ℕ} {e : Refusal} → IsWritten took limit w p v → WritesInCalls took v colon z
      → IsStopped took limit z q u e → IsStopped took limit w (keyed p colon q) u e
  unfolding keyed
  keyed_stopped {p = p} {q = q} {e = e} h c k = record {
    refused = refuses_wider e (λ z. ap (λ b. p.names && b) z ∙ and_right p.names false refl) (within_less limit q.depth (max p.depth q.depth) (omega arith))
        k.refused;
    refused_name = holds_same {part = q.refused} e (λ t z. ap (λ r. option_or r q.refused) h.clear ∙ z) k.refused_name;
    beginning = begun_behind took _ _ _ _ _ h.text (begun_behind took _ _ _ _ _ c k.beginning);
  }

  -- ---- at the same place

  pub tries_same : {x y : Place} → x ≡ y → (bare : Bool) (w : W) (d : tree.Data) (v : W) (r : Result (Unit {0}) Refusal)
      → Tries took limit w (value_piece x bare d) v r → Tries took limit w (value_piece y bare d) v r
  tries_same same bare w d v r h = subst (λ x. Tries took limit w (value_piece x bare d) v r) same h

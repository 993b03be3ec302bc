-- Fronts of texts, put together as the texts are: for what an error leaves written.
use Rattle.std.proofs.Common.{ℕ, List, [], ◌++◌, refl, sym, ap, ◌∙◌, append_assoc}
use Rattle.std.specs.Fmt.{WritesInCalls}
use Rattle.ron_base_device.specs.Begun.{HasBegun}
use Rattle.ron_ser.proofs.Pieces.{nothing, both}

module _ {W : Type 0} (took : W → List ℕ → W → Type 0) where
  pub begun_not : (w : W) (text : List ℕ) → HasBegun took w text w
  begun_not w text = record { front = []; rest = text; written = nothing took w; whole = refl }

  pub begun_behind : (w : W) (a : List ℕ) (v : W) (b : List ℕ) (u : W) → WritesInCalls took w a v → HasBegun took v b u → HasBegun took w (a ++ b) u
  begun_behind w a v b u p h = record {
    front = a ++ h.front;
    rest = h.rest;
    written = both took w a v h.front u p h.written;
    whole = ap (λ t. a ++ t) h.whole ∙ sym (append_assoc a h.front h.rest);
  }

  pub begun_longer : (w : W) (a b : List ℕ) (u : W) → HasBegun took w a u → HasBegun took w (a ++ b) u
  begun_longer w a b u h = record { front = h.front; rest = h.rest ++ b; written = h.written; whole = ap (λ t. t ++ b) h.whole ∙ append_assoc h.front h.rest b }

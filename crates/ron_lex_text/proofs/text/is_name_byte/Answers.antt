-- The table is held against the definition at each of the 256 bytes, by computing.
use Rattle.std.proofs.Common.{◌≡◌, ℕ, Bool, true, false, ◌&&◌, ◌||◌, ◌==◌, not, nat_lt, nat_eq, get_or, refl, sym, ap, ◌∙◌, arith}
use Rattle.std.specs.Char.{is_ascii_alphanumeric}
use Rattle.std.proofs.lemmas.Bool.{agree_below_at, ltb-true}
use Rattle.unicode_ident.proofs.IdentLemmas.{is_xid_continue-ascii}
use Rattle.ron_spec_words.specs.Characters.{continues_name}
use Rattle.ron_lex_text.specs.declared.text.TheConstants.{NAME_BYTES}
use Rattle.ron_lex_text.proofs.text.is_name_byte.Goals as goal

-- an ASCII letter or digit, or `_`
in_word : ℕ → Bool
in_word b = nat_lt b 128 && (is_ascii_alphanumeric b || (b == 95))

word_is : (b : ℕ) → in_word b ≡ (nat_lt b 128 && continues_name b)
unfolding in_word
word_is b = go (nat_lt b 128) refl
  where
    go : (t : Bool) → nat_lt b 128 ≡ t → (t && (is_ascii_alphanumeric b || (b == 95))) ≡ (t && continues_name b)
    go true e = sym (is_xid_continue-ascii b (ltb-true b 128 e))
    go false e = refl

pub returns : goal.returns
unfolding in_word
returns c =
    ap (λ i. not (nat_eq (get_or NAME_BYTES i 0) 44)) c.from.ensures
    ∙ agree_below_at (λ b. not (nat_eq (get_or NAME_BYTES b 0) 44)) in_word 256 c.args.byte refl (omega arith) ∙ word_is c.args.byte

-- Fixed words before what may follow them, and the suffixes of integers: for `strip_word` and `split_suffix`.
use Rattle.std.proofs.Common.{◌≡◌, true, false, [], ◌∷◌, ◌++◌, drop, length, Some, None, refl, sym, ap, ◌∙◌}
use Rattle.std.proofs.Math.Seq.{drop-append_seam}
use Rattle.ron_spec_words.specs.Characters.{Text, continues_name}
use Rattle.ron_spec_words.specs.Runs.{begins, is_at}
use Rattle.ron_spec_words.specs.Lang.{done}
use Rattle.ron_spec_words.specs.Reader.{got}
use Rattle.ron_spec_words.specs.Directly.{stands, fixed_word}
use Rattle.ron_spec_words.specs.Number.{Suffix, i8, i16, i32, i64, i128, u8, u16, u32, u64, u128, suffix_word, opt_suffix}
use Rattle.ron_spec_words.proofs.Direct.{begins-append, stands-splits}
use Rattle.ron_spec_words.proofs.Numbers.{word_suffix}

-- a word stands where no character of a name follows it
pub stands_there : (w s rest : Text) → s ≡ w ++ rest → begins continues_name rest ≡ false → stands w s ≡ true
stands_there w s rest e f = rw (e, begins-append w rest, drop-append_seam w rest, f) refl

pub word_there : (w s rest : Text) → s ≡ w ++ rest → begins continues_name rest ≡ false → fixed_word w done s ≡ got done rest
word_there w s rest e f = rw (stands_there w s rest e f) (ap (got done) (ap (drop (length w)) e ∙ drop-append_seam w rest))

-- the suffix that stands there is read
pub suffix_there : (x : Suffix) (s rest : Text) → s ≡ suffix_word x ++ rest → stands (suffix_word x) s ≡ true → opt_suffix s ≡ got (Some x) rest
suffix_there x s rest e f =
    let ends : begins continues_name rest ≡ false =
    ap (begins continues_name) (sym (ap (drop (length (suffix_word x))) e ∙ drop-append_seam (suffix_word x) rest)) ∙ (stands-splits (suffix_word x) s f).1 in
    ap opt_suffix e ∙ (word_suffix.complete (suffix_word x) rest (Some x) (record { same = refl; ends = ends; value = refl })).answer

-- where none stands, none is read
pub no_suffix_there : (s : Text) → ((x : Suffix) → stands (suffix_word x) s ≡ false) → opt_suffix s ≡ got None s
no_suffix_there s h = (word_suffix.complete [] s None (refl, h)).answer

-- what holds of each of the ten holds of all
pub each_suffix : (P : Suffix → Type 0) → P i8 → P i16 → P i32 → P i64 → P i128 → P u8 → P u16 → P u32 → P u64 → P u128 → (x : Suffix) → P x
each_suffix P a b c d e f g h i j i8 = a
each_suffix P a b c d e f g h i j i16 = b
each_suffix P a b c d e f g h i j i32 = c
each_suffix P a b c d e f g h i j i64 = d
each_suffix P a b c d e f g h i j i128 = e
each_suffix P a b c d e f g h i j u8 = f
each_suffix P a b c d e f g h i j u16 = g
each_suffix P a b c d e f g h i j u32 = h
each_suffix P a b c d e f g h i j u64 = i
each_suffix P a b c d e f g h i j u128 = j

-- no suffix begins with another character than `i` and `u`
pub no_suffix_begins : (s : Text) → is_at 105 s ≡ false → is_at 117 s ≡ false → opt_suffix s ≡ got None s
no_suffix_begins s e f = no_suffix_there s (none s e f)
  where
    none : (s : Text) → is_at 105 s ≡ false → is_at 117 s ≡ false → (x : Suffix) → stands (suffix_word x) s ≡ false
    none [] e f = each_suffix (λ x. stands (suffix_word x) [] ≡ false) refl refl refl refl refl refl refl refl refl refl
    none (c ∷ s) e f = each_suffix (λ x. stands (suffix_word x) (c ∷ s) ≡ false) (rw e refl) (rw e refl) (rw e refl) (rw e refl) (rw e refl) (rw f refl)
        (rw f refl) (rw f refl) (rw f refl) (rw f refl)

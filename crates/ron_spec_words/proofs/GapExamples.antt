-- Gaps that compute: what follows the longest one.
use Rattle.std.proofs.Common.{◌≡◌, [], codes, refl}
use Rattle.ron_spec_words.specs.Gap.{after_comment, skip_from, skip}

no_gap : skip (codes "x ") ≡ codes "x "
unfolding skip skip_from after_comment
no_gap = refl

blanks : skip (codes " \t\r\nx") ≡ codes "x"
unfolding skip skip_from after_comment
blanks = refl

carriage_return_in_line : skip (codes "// a\r b\n x") ≡ codes "x"
unfolding skip skip_from after_comment
carriage_return_in_line = refl

line_to_end : skip (codes " //") ≡ []
unfolding skip skip_from after_comment
line_to_end = refl

nested : skip (codes "/* a /* b */ c */x") ≡ codes "x"
unfolding skip skip_from after_comment
nested = refl

star_apart_from_slash : skip (codes "/* * / */x") ≡ codes "x"
unfolding skip skip_from after_comment
star_apart_from_slash = refl

unclosed : skip (codes " /* a") ≡ codes "/* a"
unfolding skip skip_from after_comment
unclosed = refl

two_unclosed : skip (codes "/*/*") ≡ codes "/*/*"
unfolding skip skip_from after_comment
two_unclosed = refl

inner_closed : skip (codes "/* /* */") ≡ codes "/* /* */"
unfolding skip skip_from after_comment
inner_closed = refl

lone_slash : skip (codes "/") ≡ codes "/"
unfolding skip skip_from after_comment
lone_slash = refl

slash_and_letter : skip (codes "\n/x") ≡ codes "/x"
unfolding skip skip_from after_comment
slash_and_letter = refl

-- Worked texts: what a text says; a wish that may stand stands, one that may not does not.
use Rattle.std.proofs.Common.{◌≡◌, zero, suc, List, [], ◌∷◌, codes, Option, Some, refl}
use Rattle.unicode_ident.proofs.Computing.{unicode_ident}
use Rattle.ron_spec_words.specs.Characters.{Text}
use Rattle.ron_spec_words.specs.Gap.{skip, skip_from, gap_of, after_comment}
use Rattle.ron_spec_words.specs.Scan.{token}
use Rattle.ron_format_words.specs.Comments.{comments_from, comments_of, said_from, said}
use Rattle.ron_format_words.specs.Edge.{permitted, granted}
use Rattle.ron_format_words.specs.Laid.{Wish, edge_of, past_edge, granted_at, laid, laid_from}

-- ---- what a text says

comments : comments_of (codes " // a \t\r\n/* b /* c */ */, //") ≡ codes "// a" ∷ codes "/* b /* c */ */" ∷ codes "//" ∷ []
unfolding comments_of comments_from after_comment
comments = refl

words_and_comments : said (codes "[ /*a*/ x,1.5 // b\n, ] ")
    ≡ codes "[" ∷ codes "/*a*/" ∷ codes "x" ∷ codes "1" ∷ codes "." ∷ codes "5" ∷ codes "// b" ∷ codes "]" ∷ []
unfolding said said_from comments_of comments_from skip skip_from gap_of after_comment token unicode_ident
words_and_comments = refl

-- what a text is laid out by, in one name
unfoldable laying : Unit {0}
unfolding laid laid_from edge_of past_edge granted_at granted permitted comments_of comments_from skip skip_from gap_of after_comment token unicode_ident
laying = tt

-- ---- gaps

-- the wishes in their order, and behind the last of them nothing
wishes : List Text → Wish
wishes [] n = []
wishes (w ∷ ws) zero = w
wishes (w ∷ ws) (suc n) = wishes ws n

-- the text by one wish for all edges, and by some wishes in their order
all : Text → Text → Option Text
all w s = laid (λ n. w) s

each : List Text → Text → Option Text
each ws s = laid (wishes ws) s

-- a blank everywhere
blanks : all (codes " ") (codes "[true,a b]") ≡ Some (codes " [ true,a b ] ")
unfolding wishes all each laying
blanks = refl

blanks_and_commas : each (codes "" ∷ codes " " ∷ codes " , " ∷ codes " " ∷ codes " " ∷ codes "\n" ∷ []) (codes "[true,a b]") ≡ Some (codes "[ true , a b ]\n")
unfolding wishes all each laying
blanks_and_commas = refl

-- nothing anywhere: words stay apart, `( )` keeps its gap, a gap before `(` goes, and each comma between two items stays
nothing : all [] (codes "f (1 , x y: ( ),()) ") ≡ Some (codes "f(1 , x y:( ),())")
unfolding wishes all each laying
nothing = refl

-- no gap comes before `(`, and none into `()`
kept : all (codes " ") (codes "T(())") ≡ Some (codes " T( () ) ")
unfolding wishes all each laying
kept = refl

-- neither does one go between the parts of a range, nor come
ranges : all [] (codes "1 ..2") ≡ Some (codes "1 ..2")
unfolding wishes all each laying
ranges = refl

-- ---- last commas

-- a last comma comes behind the item of a list that is broken, and goes again
last_comma_comes : each (codes "" ∷ codes "\n  " ∷ codes ",\n" ∷ codes "\n" ∷ []) (codes "[1]") ≡ Some (codes "[\n  1,\n]\n")
unfolding wishes all each laying
last_comma_comes = refl

last_comma_goes : all [] (codes "[\n  1,\n]\n") ≡ Some (codes "[1]")
unfolding wishes all each laying
last_comma_goes = refl

-- but in an attribute neither
attribute : each (codes "" ∷ codes "" ∷ codes "" ∷ codes "" ∷ codes "" ∷ codes "" ∷ codes "," ∷ codes "" ∷ codes "\n" ∷ codes "" ∷ codes "," ∷ [])
    (codes "#![enable(a)][1]") ≡ Some (codes "#![enable(a)]\n[1,]")
unfolding wishes all each laying
attribute = refl

-- a comma behind no item is a word of its own, and stays
no_item : all [] (codes "( , )") ≡ Some (codes "(,)")
unfolding wishes all each laying
no_item = refl

-- none comes behind an opening bracket, and none between two items
no_comma : all (codes ",") (codes "[a b[]]") ≡ Some (codes "[a b[],]")
unfolding wishes all each laying
no_comma = refl

-- ---- comments

-- a wish that drops a comment, or changes it, does not stand
comment_stays : all (codes " ") (codes "[/*a*/1/*b*/]") ≡ Some (codes " [/*a*/1/*b*/] ")
unfolding wishes all each laying
comment_stays = refl

-- the comma may stand before the comments that stood before it
comma_before_comment : each (codes "" ∷ codes "" ∷ codes ", // a\n " ∷ codes "\n" ∷ []) (codes "[1 // a \r\n  , 2]") ≡ Some (codes "[1, // a\n 2\n]")
unfolding wishes all each laying
comma_before_comment = refl

-- one that leaves a line comment open is no wish that stands
left_open : all (codes "//") (codes "[//\n1]") ≡ Some (codes "[//\n1]")
unfolding wishes all each laying
left_open = refl

-- a line comment that the text's end ended is ended by an LF
comment_to_end : each (codes "" ∷ codes " // a\n" ∷ []) (codes "1//a") ≡ Some (codes "1//a")
unfolding wishes all each laying
comment_to_end = refl

comment_ended : each (codes "" ∷ codes " //a\n" ∷ []) (codes "1//a") ≡ Some (codes "1 //a\n")
unfolding wishes all each laying
comment_ended = refl

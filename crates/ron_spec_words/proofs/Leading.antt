-- Where whole tokens lead: over gaps, marks, words and literals, for whoever reads them one behind the other.
use Rattle.std.proofs.Common.{◌≡◌, ℕ, Bool, true, length, drop, [], ◌∷◌, ◌++◌, codes, Some, sym, ap, subst, ◌∙◌}
use Rattle.ron_spec_words.specs.Characters.{Text}
use Rattle.ron_spec_words.specs.Gap.{LongGap, skip, gap_of, is_delimiter, ends_value}
use Rattle.ron_spec_words.specs.Lang.{Lang}
use Rattle.ron_spec_words.specs.Reader.{Reader, got}
use Rattle.ron_spec_words.specs.Exact.{Sound, FollowsValue}
use Rattle.ron_spec_words.specs.Tokens.{IsOneToken}
use Rattle.ron_spec_words.specs.Directly.{stands}
use Rattle.ron_spec_words.specs.Name.{name, untyped_name}
use Rattle.ron_spec_words.specs.Scan.{token, is_opening, Walk, here, on}
use Rattle.ron_spec_words.specs.Openings.{Leads, same, past, BeginsContent}
use Rattle.ron_spec_words.proofs.Gaps.{cut}
use Rattle.ron_spec_words.proofs.Direct.{stands-splits}
use Rattle.ron_spec_words.proofs.Names.{word_name, word_untyped_name}
use Rattle.ron_spec_words.proofs.Tokens.{token_gap}
use Rattle.ron_spec_words.proofs.TokenRuns.{is_plain_run, run_of_word, token_name, token_untyped_name}
use Rattle.ron_spec_words.proofs.Walks.{opening_alone, comma_alone, colon_alone}
use Rattle.ron_spec_words.proofs.WordsPass.{plain_words}

-- ---- tokens

pub leads_on : {s u v : Text} → Leads s u → Leads u v → Leads s v
leads_on (same s) l = l
leads_on (past s next u h k) l = past s next _ h (leads_on k l)

pub leads_token : (s u : Text) → token s ≡ Some u → Leads s u
leads_token s u h = past s u u h (same u)

pub leads_walk : {commas : Bool} {d e : ℕ} {s u : Text} → Walk commas d s e u → Leads s u
leads_walk (here d s) = same s
leads_walk (on d c t next e u h k w) = past (c ∷ (t ++ next)) next u k (leads_walk w)

-- also where no gap stands, or a slash behind it
pub leads_gap : (s : Text) → Leads s (skip s)
leads_gap s = let k = cut s in subst (λ u. Leads u (skip s)) (sym k.split) (go (gap_of s) k.is_gap)
  where
    go : (g : Text) → LongGap g (skip s) → Leads (g ++ skip s) (skip s)
    go [] h = same (skip s)
    go (c ∷ g) h = leads_token (c ∷ (g ++ skip s)) (skip s) (token_gap c g (skip s) h)

-- ---- marks

pub leads_opening : (c : ℕ) (s : Text) → is_opening c ≡ true → Leads (c ∷ s) s
leads_opening c s e = leads_token (c ∷ s) s (opening_alone c s e)

pub leads_comma : (s : Text) → Leads (44 ∷ s) s
leads_comma s = leads_token (44 ∷ s) s (comma_alone s)

pub leads_colon : (s : Text) → Leads (58 ∷ s) s
leads_colon s = leads_token (58 ∷ s) s (colon_alone s)

-- to what a bracket holds: over it and the gap behind it
pub leads_content : (s content : Text) → BeginsContent s content → Leads s content
leads_content s content h = rw h.begins (leads_on h.leads (leads_on (leads_opening h.bracket h.inside h.opens) (leads_gap h.inside)))

-- ---- words that are one token

of_token : {A : Type 0} (r : Reader A) (L : Lang A) → Sound r L → IsOneToken L → (s : Text) (a : A) (u : Text) → r s ≡ got a u → Leads s u
of_token r L sound one s a u e = let y = sound s a u e in leads_token s u (ap token y.split ∙ one y.stretch u a y.spelled)

pub leads_name : (s n u : Text) → name s ≡ got n u → Leads s u
leads_name = of_token name _ word_name.sound token_name

pub leads_untyped_name : (s n u : Text) → untyped_name s ≡ got n u → Leads s u
leads_untyped_name = of_token untyped_name _ word_untyped_name.sound token_untyped_name

-- a fixed word that begins no literal
pub leads_word : (w s : Text) → is_plain_run w ≡ true → stands w s ≡ true → Leads s (drop (length w) s)
leads_word w s plain e = let k = stands-splits w s e in leads_token s (drop (length w) s) (ap token k.0 ∙ run_of_word w (drop (length w) s) plain k.1)

pub leads_some : (s : Text) → stands (codes "Some") s ≡ true → Leads s (drop (length (codes "Some")) s)
leads_some s = leads_word (codes "Some") s plain_words.3

-- ---- before what may follow a value

-- where a gap leads to such a character
pub follows_mark : (c : ℕ) (s rest : Text) → skip s ≡ c ∷ rest → is_delimiter c ≡ true → FollowsValue s
follows_mark c s rest e h = ap ends_value e ∙ h

-- What is read of a text, by slices or as data that borrows nothing, and what a source gives.
use Rattle.std.proofs.Common.{◌≡◌, ℕ, Option, None, Some, IfSome, Result, Ok, Err, IfErr, List, [], ◌++◌, true, chars, IsUtf8, refl, subst, sym, ap, ◌∙◌}
use Rattle.std.proofs.Common.{append-nil, arith}
use Rattle.std.proofs.lemmas.List.{take_all}
use Rattle.std.proofs.lemmas.Str.{utf8_valid_len-IsUtf8}
use Rattle.std.specs.Str.Lossy.{utf8_valid_len}
use Rattle.std.specs.Io.KnownBytes.{Consumes, IsAtEnd}
use Rattle.ron_spec_words.specs.Characters.{Text}
use Rattle.ron_spec_grammar.specs.Rule.{Extensions}
use Rattle.ron_spec_grammar.specs.Schema.{is_well_formed}
use Rattle.ron_base.specs.declared.error.Error.{Error}
use Rattle.ron_base.specs.declared.error.Error.TheVariants.{Io}
use Rattle.ron_base.specs.declared.error.SpannedError.{SpannedError}
use Rattle.ron_data.specs.declared.data.Data.{Data}
use Rattle.ron_data_schema.specs.Table.{Table}
use Rattle.ron_base_device.specs.Utf8.{valid_front, SpansValidFront}
use Rattle.ron_lex.specs.Place.{IsPositionBefore}
use Rattle.ron_lex.proofs.PlaceLemmas.{not_after}
use lib.Utf8.{scalars}
use Rattle.ron.specs.Bytes.{ReadsOwned, IsOwnedRefused, IsIo, IsInValidFront}
use Rattle.ron.specs.Kept.{IsKeptTextRefused, TellsKept}
use Rattle.ron.specs.Reading.{HasSpanIn, IsOfDocument}
use Rattle.ron.specs.Whole.{TellsErrors}
use Rattle.ron.proofs.ReadLemmas.{no_cycle_in}
use Rattle.ron.proofs.WholeLemmas.{refuses_deep, is_document, is_only, is_of_schema, is_refused, reads_back}

-- ---- where slices are taken of the text, and where none are

module _ (x : Extensions) (limit : Option ℕ) (table : Table) (text : Text) where
  pub text_told : (source : Option Text) (result : Result Data SpannedError) → source ≡ Some text → TellsKept source x limit table text result
      → TellsErrors x limit table text result
  text_told source (Ok d) k h = record { answer = h.answer; rest = h.rest; refused = tt }
  text_told source (Err e) k h = record {
    answer = h.answer;
    rest = h.rest;
    refused = record {
      fault = h.refused.fault;
      only_limited = h.refused.only_limited;
      trailing = h.refused.trailing;
      memory = h.refused.memory;
      string = h.refused.string k;
      place = h.refused.place;
    };
  }

  owned_refused : (source : Option Text) (result : Result Data SpannedError) → IfErr result (IsKeptTextRefused source x limit table text)
      → IfErr result (IsOwnedRefused x limit table text)
  owned_refused source (Ok d) h = tt
  owned_refused source (Err e) h = record { fault = h.fault; only_limited = h.only_limited; trailing = h.trailing; place = h.place }

  pub owned_told : is_well_formed table.shapes table.root ≡ true → scalars text ≡ true → (source : Option Text) (result : Result Data SpannedError)
      → TellsKept source x limit table text result → ReadsOwned x limit table text result
  owned_told well chars_are source result h =
      let ends = no_cycle_in table well in
      record {
        ok = is_document x limit table ends text result h.answer;
        only = is_only x limit table ends text chars_are result h.answer;
        of_schema = is_of_schema x limit table ends text result well h.answer;
        err = is_refused x limit table ends text result h.answer;
        deep = refuses_deep x table ends text limit result h.answer;
        reads_back = reads_back x limit table ends text result well h.answer;
        answer = h.answer;
        rest = h.rest;
        refused = owned_refused source result h.refused;
      }

-- no device is read
no_device : (e : Error) → IsOfDocument e → IsIo e → ⊥
no_device (Io text) h i = h
no_device e h i = i

pub no_device_told : (source : Option Text) (x : Extensions) (limit : Option ℕ) (table : Table) (text : Text) (result : Result Data SpannedError)
    → TellsKept source x limit table text result → IfErr result (λ refused. IsIo refused.code → ⊥)
no_device_told source x limit table text (Ok d) h = tt
no_device_told source x limit table text (Err e) h = no_device e.code h.refused.fault

-- what a source gave until its end is all that was known of it
pub all_given : (old new : Option (List ℕ)) (given : List ℕ) → Consumes old new given → IsAtEnd new → IfSome old (λ bytes. given ≡ bytes)
all_given None new given gave end = tt
all_given (Some bytes) None given gave end = absurd gave
all_given (Some bytes) (Some left) given gave end = sym (gave ∙ ap (λ t. given ++ t) end ∙ append-nil given)

-- of what was not read all is left
pub none_given : (known : Option (List ℕ)) → Consumes known known []
none_given None = tt
none_given (Some bytes) = refl

-- the span of the valid front of bytes lies in it
pub front_span : (bytes : List ℕ) (refused : SpannedError) → SpansValidFront bytes refused.span → IsInValidFront bytes refused
front_span bytes refused h =
    let text = chars (valid_front bytes) in
    let start : IsPositionBefore text text refused.span.start = record { front = []; split = refl; line = h.start_line; col = h.start_col } in
    let end : IsPositionBefore text [] refused.span.end = record { front = text; split = sym (append-nil text); line = h.end_line; col = h.end_col } in
    record {
      ordered = not_after text text [] refused.span.start refused.span.end start end (record { front = text; is = sym (append-nil text) });
      start = (text, start);
      end = ([], end);
    }

-- bytes that are UTF-8 are their own valid front
all_valid : (bytes : List ℕ) → IsUtf8 bytes → valid_front bytes ≡ bytes
all_valid bytes utf8 = take_all (utf8_valid_len bytes) bytes (let e = utf8_valid_len-IsUtf8 bytes utf8 in omega (arith, e))

-- what lies in the text that bytes are lies in their valid front
pub in_front : (text bytes : List ℕ) (refused : SpannedError) → text ≡ bytes → IsUtf8 bytes → HasSpanIn (chars text) refused → IsInValidFront bytes refused
in_front text bytes refused same utf8 h = subst (λ b. HasSpanIn (chars b) refused) (same ∙ sym (all_valid bytes utf8)) h

pub whole_span_of : (text bytes : List ℕ) (refused : SpannedError) → bytes ≡ text → IsUtf8 bytes → SpansValidFront bytes refused.span
    → HasSpanIn (chars text) refused
whole_span_of text bytes refused same utf8 h = subst (λ b. HasSpanIn (chars b) refused) (all_valid bytes utf8 ∙ same) (front_span bytes refused h)

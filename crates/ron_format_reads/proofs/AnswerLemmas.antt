-- The answers to texts of the same words, from what the calls promise.
use Rattle.std.proofs.Common.{◌≡◌, ◌⊎◌, inl, inr, ℕ, Option, Some, None, Ok, Err, sym}
use Rattle.ron.specs.Characters.{Text}
use Rattle.ron.specs.Rule.{Extensions}
use Rattle.ron.specs.Table.{Table}
use Rattle.ron.specs.PlainData as plain
use Rattle.ron.specs.Datum.{data_view}
use Rattle.ron.specs.ValueView.{tree_of}
use Rattle.ron.specs.Extensions.{no_extensions}
use Rattle.ron.specs.Error.TheVariants.{OutOfMemory}
use Rattle.ron.specs.SpannedError.{SpannedError}
use Rattle.ron.specs.Whole.{DocumentWithin, IsOnlyDocument}
use Rattle.ron_format_words.specs.Places.{SameText}
use Rattle.ron_format_laws.specs.Claims.{IsRawless}
use Rattle.ron_format_laws.proofs.Documents.{keeps_documents, keeps_value_documents}
use Rattle.ron_format_reads.specs.Claims.{ReadsTheSame, ReadsTheSameValue}

kept_within : (x : Extensions) (limit : Option ℕ) (table : Table) (s u : Text) (d : plain.Data) → IsRawless table.shapes → SameText s u
    → DocumentWithin x limit table s d → DocumentWithin x limit table u d
kept_within x (Some limit) table s u d rawless k z = keeps_documents x table.shapes table.root limit s u d rawless k z
kept_within x None table s u d rawless k z = (z.0, keeps_documents x table.shapes table.root z.0 s u d rawless k z.1)

only_within : (x : Extensions) (limit : Option ℕ) (table : Table) (u : Text) (d e : plain.Data) → IsOnlyDocument x table u e → DocumentWithin x limit table u d
    → d ≡ e
only_within x (Some limit) table u d e only z = only d limit z
only_within x None table u d e only z = only d z.0 z.1

refused_memory : {A : Type 0} {N : A → Type 0} (refused : SpannedError) → (refused.code ≡ OutOfMemory) ⊎ ((a : A) → N a → ⊥) → (a : A) → N a
    → refused.code ≡ OutOfMemory
refused_memory refused (inl memory) a z = memory
refused_memory refused (inr none) a z = absurd (none a z)

pub reads_the_same : ReadsTheSame
reads_the_same x limit table s u (Ok d) (Ok e) rawless k first second =
    sym (only_within x limit table u (data_view d) (data_view e) second.only.by_schema (kept_within x limit table s u (data_view d) rawless k first.ok))
reads_the_same x limit table s u (Ok d) (Err refused) rawless k first second =
    refused_memory refused second.err (data_view d) (kept_within x limit table s u (data_view d) rawless k first.ok)
reads_the_same x limit table s u (Err refused) second rawless k first y = tt

pub reads_the_same_value : ReadsTheSameValue
reads_the_same_value s u (Ok v) (Ok w) k first second = sym (second.only (tree_of v) 128 (keeps_value_documents no_extensions 128 s u (tree_of v) k first.ok))
reads_the_same_value s u (Ok v) (Err refused) k first second =
    refused_memory refused second.err (tree_of v) (keeps_value_documents no_extensions 128 s u (tree_of v) k first.ok)
reads_the_same_value s u (Err refused) second k first y = tt

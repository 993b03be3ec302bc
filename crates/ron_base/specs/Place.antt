-- Places in a text: which of two comes first, and how they are shown.
use Rattle.std.specs.Prelude.{ℕ, Bool, ◌≡◌, ◌<◌, ◌≤◌, ◌⊎◌, ◌==◌, ◌&&◌, List, ◌++◌, if◌then◌else◌, codes}
use Rattle.std.specs.Fmt.{decimal}
use Rattle.std.specs.declared.cmp.Ordering.{Ordering}
use Rattle.std.specs.Ordering.{on, then_cmp, nat_cmp}
use Rattle.ron_base.specs.declared.error.Position.{Position}
use Rattle.ron_base.specs.declared.error.Span.{Span}

-- p does not come after q: its line is smaller, or it is the same and its column is no greater
abbrev pub IsNotAfter : Position → Position → Type 0
IsNotAfter p q = (p.line < q.line) ⊎ ((p.line ≡ q.line) × (p.col ≤ q.col))

-- positions in order: by line, then by column
abbrev pub position_cmp : Position → Position → Ordering
position_cmp = then_cmp (on (λ p. p.line) nat_cmp) (on (λ p. p.col) nat_cmp)

-- `l:c`
abbrev pub position_text : Position → List ℕ
position_text p = decimal p.line ++ (codes ":" ++ decimal p.col)

-- both have one line and one column
abbrev pub same_position : Position → Position → Bool
same_position p q = (p.line == q.line) && (p.col == q.col)

-- `l:c` where both ends are the same, and else `l:c-l:c`
abbrev pub span_text : Span → List ℕ
span_text s = if same_position s.start s.end then position_text s.start else position_text s.start ++ (codes "-" ++ position_text s.end)

-- What blocks of spans know.
use Rattle.std.specs.Prelude.{ℕ, ◌≡◌, ◌<◌, ◌≤◌, ◌*◌, ◌+◌, ◌-◌, ◌^◌, ◌&&◌, nat_lt, List, length, count_by, take, drop, slice_index_or, slice_get}
use Rattle.std.specs.Option.{option_map_or}
use Rattle.std.specs.List.Sorted.{IsNonDecreasing}
use Rattle.protox_spans.specs.declared.span.Span.{Span}
use Rattle.protox_spans.specs.declared.block.Block.{Block}
use Rattle.protox_spans.specs.declared.levels.Level.{Level}
use Rattle.protox_spans.specs.declared.search.Table.{Table}
use Rattle.protox_spans.specs.Spans.{has_numbers}

-- Below each bound there are as many of the numbers as there are spans with numbers of which this
-- side is below it.
abbrev pub Counts : List ℕ → (Span → ℕ) → List Span → Type 0
Counts numbers side spans = (t : ℕ) → count_by (λ x. nat_lt x t) numbers ≡ count_by (λ s. has_numbers s && nat_lt (side s) t) spans

-- The block is that of the spans.
pub record FitsBlock (block : Block) (spans : List Span) : Type 0 where
  pub starts_up : IsNonDecreasing block.starts.items
  pub ends_up : IsNonDecreasing block.ends.items
  pub starts : Counts block.starts.items (λ s. s.start) spans
  pub ends : Counts block.ends.items (λ s. s.end) spans

-- how many numbers are below the end of the span, less how many of the ends are up to its start
abbrev pub count_met : Block → Span → ℕ
count_met block span = count_by (λ x. nat_lt x span.end) block.starts.items - count_by (λ x. nat_lt x (span.start + 1)) block.ends.items

-- what `count_met` gives of a block of the level; 0 behind the last one
abbrev pub met_at : Level → ℕ → Span → ℕ
met_at level at span = option_map_or (λ block. count_met block span) (slice_get level.blocks.items at) 0

-- The numbers of each block are sorted.
pub record AreSorted (level : Level) : Type 0 where
  pub starts : (b : ℕ) (d : Block) → b < length level.blocks.items → IsNonDecreasing (slice_index_or level.blocks.items b d).starts.items
  pub ends : (b : ℕ) (d : Block) → b < length level.blocks.items → IsNonDecreasing (slice_index_or level.blocks.items b d).ends.items

-- The blocks of the level hold the spans, each of them as many as its width.
pub record IsLevel (level : Level) (width : ℕ) (spans : List Span) : Type 0 where
  pub fit : (b : ℕ) (d : Block) → b < length level.blocks.items → FitsBlock (slice_index_or level.blocks.items b d) (take width (drop (b * width) spans))
  pub all : length spans ≤ length level.blocks.items * width

-- The levels are those of widths 1, 2, 4, and so on. The last one holds all spans in its first
-- block.
pub record AreLevels (levels : List Level) (spans : List Span) : Type 0 where
  pub some : 0 < length levels
  pub each : (k : ℕ) (d : Level) → k < length levels → IsLevel (slice_index_or levels k d) (2 ^ k) spans
  pub last : length spans ≤ 2 ^ (length levels - 1)

abbrev pub IsTable : Table → Type 0
IsTable table = AreLevels table.levels.items table.spans.now

-- The first and the last character at which a line may be shown, from what the code finds.
use Rattle.std.proofs.Common.{ℕ, ◌≡◌, ◌≢◌, ◌+◌, ◌-◌, ◌<◌, ◌≤◌, true, false, List, slice_index, inl, inr, arith}
use Rattle.std.proofs.lemmas.Bool.{cases_lt}
use Rattle.std.specs.Str.{IsCharBoundary}
use Rattle.protox_report.specs.Excerpts.{ends_line, IsFirst, IsLast, IsFloor}

pub floor_is : (source : List ℕ) (at place : ℕ) → place ≤ at → IsCharBoundary source place
    → ((i : ℕ) → place < i → i ≤ at → (IsCharBoundary source i → ⊥)) → IsFloor source at place
floor_is source at place bound boundary nearest = record {
  at_character = boundary;
  before = bound;
  last = λ other h b. elim (cases_lt place other) [ inl above ↦ absurd (nearest other above h b) | inr below ↦ below ];
}

pub first_is : (source : List ℕ) (start low from : ℕ) → IsCharBoundary source start → start - 120 ≤ low → low ≤ start
    → ((k : ℕ) → low ≤ k → k < start → slice_index source k ≢ 10) → (start - 120 < low → slice_index source (low - 1) ≡ 10)
    → low ≤ from → IsCharBoundary source from → ((i : ℕ) → low ≤ i → i < from → (IsCharBoundary source i → ⊥)) → IsFirst source start from
first_is source start low from at_start least most clean newline bound boundary nearest = record {
  may = record {
    at_character = boundary;
    before = elim (cases_lt start from) [ inl past ↦ absurd (nearest start most past at_start) | inr fine ↦ fine ];
    near = omega arith;
    one_line = λ k above below. clean k (omega arith) below;
  };
  first = λ other h. elim (cases_lt other from) [
    | inl past ↦ elim (cases_lt other low) [
      | inl lower ↦
          let near = h.near in
          let breaks = newline (omega arith) in
          absurd (h.one_line (low - 1) (omega arith) (omega arith) breaks)
      | inr above ↦ absurd (nearest other above past h.at_character)
    ]
    | inr fine ↦ fine
  ];
}

pub last_is : (source : List ℕ) (start end most stop to : ℕ) → IsCharBoundary source start → start ≤ stop → stop ≤ most → most ≤ end → most ≤ start + 120
    → ((k : ℕ) → k ≤ end → k ≤ start + 120 → k ≤ most)
    → ((k : ℕ) → start ≤ k → k < stop → ends_line source k ≡ false) → (stop < most → ends_line source stop ≡ true)
    → to ≤ stop → IsCharBoundary source to → ((i : ℕ) → to < i → i ≤ stop → (IsCharBoundary source i → ⊥)) → IsLast source start end to
last_is source start end most stop to at_start behind within most_end most_near least clean ends bound boundary nearest = record {
  may = record {
    at_character = boundary;
    behind = elim (cases_lt to start) [ inl short ↦ absurd (nearest start short behind at_start) | inr fine ↦ fine ];
    near = omega arith;
    within = omega arith;
    one_line = λ k above below. clean k above (omega arith);
  };
  last = λ other h. elim (cases_lt to other) [
    | inl past ↦ elim (cases_lt stop other) [
      | inl beyond ↦
          let reach = least other h.within h.near in
          let yes = ends (omega arith) in
          let no = h.one_line stop behind beyond in
          absurd cc
      | inr short ↦ absurd (nearest other past short h.at_character)
    ]
    | inr fine ↦ fine
  ];
}

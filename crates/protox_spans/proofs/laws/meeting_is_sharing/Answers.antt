use Rattle.protox_spans.proofs.Shared as shared
use Rattle.protox_spans.proofs.laws.meeting_is_sharing.Goals as goal

pub returns : goal.returns
returns c = shared.meeting_is_sharing

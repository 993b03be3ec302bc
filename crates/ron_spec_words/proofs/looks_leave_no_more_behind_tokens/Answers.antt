use Rattle.ron_spec_words.proofs.Far.{far_walk}
use Rattle.ron_spec_words.proofs.BeyondWalks.{beyond_walk}
use Rattle.ron_spec_words.proofs.looks_leave_no_more_behind_tokens.Goals as goal

pub returns : goal.returns
returns c = record { far = far_walk; beyond = beyond_walk }

use Rattle.mp_patch.proofs.bound.DepthBound.raise.Goals as goal

pub returns-then-most-reach-clause-raised : goal.returns-then-most-reach-clause-raised
returns-then-most-reach-clause-raised c tokens v fits = fits

use Rattle.scroll.proofs.ctx.memory.array_fits.Goals as goal

pub returns-then-fits-clause-read : goal.returns-then-fits-clause-read
returns-then-fits-clause-read g c = λ _. c.fits.ensures.fits c.if-fits.true

pub returns-then-fits-clause-written : goal.returns-then-fits-clause-written
returns-then-fits-clause-written g c = λ h. c.fits-then-fits.ensures.fits h

pub returns-then-fits-clause-found : goal.returns-then-fits-clause-found
returns-then-fits-clause-found g c = λ h. c.fits-then-fits.ensures.small h.1

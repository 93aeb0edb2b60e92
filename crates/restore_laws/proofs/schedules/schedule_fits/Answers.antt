use Rattle.restore_laws.proofs.Fitting as fitting
use Rattle.restore_laws.proofs.schedules.schedule_fits.Goals as goal

-- src/schedules.rt:11:1
pub returns : goal.returns
returns c = fitting.schedule_fits

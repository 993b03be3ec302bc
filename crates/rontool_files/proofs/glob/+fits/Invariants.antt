use Rattle.std.proofs.Common.{◌+◌, ◌*◌, length, chars}
use Rattle.rontool_files.proofs.glob.+fits.Given as goal

abbrev pub decreases-fits : goal.decreases-fits
decreases-fits l = 2 * (length (chars l.glob.now) + length (chars l.text.now))

abbrev pub decreases-fits_run : goal.decreases-fits_run
decreases-fits_run l = 2 * (length (chars l.glob.now) + length (chars l.text.now)) + 1

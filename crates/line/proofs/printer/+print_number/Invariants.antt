-- What falls: the number, of which the digits of n / 10 are printed first, then the last digit. Answers.antt has the rest.
-- Assumes nothing.
use Rattle.line.proofs.printer.+print_number.Given as goal

abbrev pub decreases-print_number : goal.decreases-print_number
decreases-print_number l = l.n

use Rattle.book.proofs.Cases as cases
use Rattle.book.proofs.FormLaws as laws
use Rattle.book.proofs.LineByLine.{lines_law}
use Rattle.book.proofs.laws.forms_law.Goals as goal

pub returns : goal.returns
returns c =
    record {
      line = laws.forms_law;
      lines = lines_law;
      says = cases.form_cases;
      count = cases.count_cases;
      number = cases.number_cases;
      shape = cases.shape_cases;
      repeat = cases.repeat_cases;
      order = cases.fault_order;
    }

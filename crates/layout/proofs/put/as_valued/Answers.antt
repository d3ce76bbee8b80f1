use Rattle.layout.proofs.Stored.{attribute-valued, parameter-valued, cell-parameter-valued, module-valued, process-valued}
use Rattle.layout.proofs.put.as_valued.Goals as goal

pub returns-in-Attribute : goal.returns-in-Attribute
returns-in-Attribute c = λ f s. attribute-valued f s _ _ _ c.in-Attribute.is

pub returns-in-Parameter : goal.returns-in-Parameter
returns-in-Parameter c = λ f s. parameter-valued f s _ _ _ c.in-Parameter.is

pub returns-in-CellParameter : goal.returns-in-CellParameter
returns-in-CellParameter c = λ f s. cell-parameter-valued f s _ _ _ _ c.in-CellParameter.is

pub returns-in-Module : goal.returns-in-Module
returns-in-Module c = rw c.only_named.ensures (λ f s. module-valued f s _ _ c.in-Module.is)

pub returns-in-Process : goal.returns-in-Process
returns-in-Process c = rw c.only_named-in-Process.ensures (λ f s. process-valued f s _ _ c.in-Process.is)

mod AskLaws

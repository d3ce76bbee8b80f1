mod GoalLaws
